-- Laws of lists of calls, and of the calls that settling allows: they change messages, and records of one end where one is delivered,
-- and nothing else. Assumes nothing.
use Prim.Native.Nat.{ℕ, ◌<◌}
use mathlib.Core.Path.{◌≡◌, refl, sym, ◌∙◌}
use mathlib.Core.Bool.{Bool, true, false, cond, ◌&&◌, not, false≢true}
use mathlib.Core.List.{List, [], ◌∷◌, ◌++◌}
use lib.ListN.{length}
use lib.Dec.{eqb}
use Rattle.distances.proofs.Booleans.{both_true, true-both, other-false}
use Rattle.protocol.specs.Net.{Network, Plan, Message}
use Rattle.protocol.specs.Calls.{Call, Change, change, update, cut, restore, send, deliver, repeat, lose, port, verdict, report, path, checks, accepted, message_at, with_messages, without, sent_over, after_delivery, received_at, updated_to, moved, with_end, after_change, act, step, run}
use Rattle.protocol.specs.Rounds.{is_change, has_no_change}
use Rattle.protocol.proofs.Accepted.{accepted-checks, place-listed}

pub run-append : (n : Network) (xs ys : List Call) → run n (xs ++ ys) ≡ run (run n xs) ys
unfolding run
run-append n [] ys = refl
run-append n (c ∷ xs) ys = run-append (step n c) xs ys

-- what is kept by every call is kept by a list of calls
pub every-run : (P : Network → Type 0) → ((n : Network) (c : Call) → P n → P (step n c)) → (n : Network) (cs : List Call) → P n → P (run n cs)
unfolding run
every-run P kept n [] p = p
every-run P kept n (c ∷ cs) p = every-run P kept (step n c) cs (kept n c p)

-- the plan stays
pub plan-step : (n : Network) (c : Call) → (step n c).plan ≡ n.plan
unfolding step act after_change updated_to moved with_end after_delivery received_at sent_over
plan-step n c = go (accepted n c)
  where
    changes : (x : Change) → (after_change n x).plan ≡ n.plan
    changes (update b t) = by (eqb (n.view b) t)
      where
        by : (b' : Bool) → (cond b' n (moved n b t)).plan ≡ n.plan
        by true = refl
        by false = refl
    changes (cut b l) = refl
    changes (restore b l) = refl

    acts : (c : Call) → (act n c).plan ≡ n.plan
    acts (change x) = changes x
    acts (send b l) = refl
    acts (deliver p) = refl
    acts (repeat p) = refl
    acts (lose p) = refl
    acts (port b d) = refl
    acts (verdict b d) = refl
    acts (report d) = refl
    acts (path s d) = refl

    go : (b : Bool) → (cond b (act n c) n).plan ≡ n.plan
    go true = acts c
    go false = refl

pub plan_run : (n : Network) (cs : List Call) → (run n cs).plan ≡ n.plan
plan_run n cs = every-run (λ m. m.plan ≡ n.plan) (λ m c e. plan-step m c ∙ e) n cs refl

-- what a call that settling allows makes of n: other messages, and perhaps the message at a place is delivered
pub data AllowedStep (n : Network) : Network → Type 0 where
  moves : (ms : List Message) → AllowedStep n (with_messages n ms)
  delivers : (p : ℕ) (ms : List Message) → p < length n.messages → AllowedStep n (with_messages (after_delivery n (message_at n p)) ms)

allowed-act : (n : Network) (c : Call) → accepted n c ≡ true → is_change c ≡ false → AllowedStep n (act n c)
unfolding act is_change checks after_delivery received_at sent_over
allowed-act n (change x) a e = absurd (false≢true (sym e))
allowed-act n (send b l) a e = moves (sent_over n b l).messages
allowed-act n (deliver p) a e = delivers p (without p n.messages) (place-listed n p _ (accepted-checks n (deliver p) a))
allowed-act n (repeat p) a e = delivers p n.messages (place-listed n p _ (accepted-checks n (repeat p) a))
allowed-act n (lose p) a e = moves (without p n.messages)
allowed-act n (port b d) a e = moves n.messages
allowed-act n (verdict b d) a e = moves n.messages
allowed-act n (report d) a e = moves n.messages
allowed-act n (path s d) a e = moves n.messages

-- a call that is no accepted change
abbrev pub Allowed : Network → Call → Type 0
Allowed n c = not (is_change c && accepted n c) ≡ true

pub allowed-step : (n : Network) (c : Call) → Allowed n c → AllowedStep n (step n c)
unfolding step
allowed-step n c h = go (accepted n c) refl
  where
    go : (b : Bool) → accepted n c ≡ b → AllowedStep n (cond b (act n c) n)
    go true q = allowed-act n c q (other-false (is_change c) (accepted n c) h q)
    go false q = moves n.messages

-- a list without an accepted change: its first call, its rest and its parts
pub first-allowed : (n : Network) (c : Call) (cs : List Call) → has_no_change n (c ∷ cs) ≡ true → Allowed n c
unfolding has_no_change
first-allowed n c cs e = (both_true (not (is_change c && accepted n c)) (has_no_change (step n c) cs) e).0

pub rest-allowed : (n : Network) (c : Call) (cs : List Call) → has_no_change n (c ∷ cs) ≡ true → has_no_change (step n c) cs ≡ true
unfolding has_no_change
rest-allowed n c cs e = (both_true (not (is_change c && accepted n c)) (has_no_change (step n c) cs) e).1

pub parts-allowed : (n : Network) (xs ys : List Call) → has_no_change n (xs ++ ys) ≡ true → (has_no_change n xs ≡ true) × (has_no_change (run n xs) ys ≡ true)
unfolding has_no_change run
parts-allowed n [] ys e = (refl, e)
parts-allowed n (c ∷ xs) ys e =
    let rest : (has_no_change (step n c) xs ≡ true) × (has_no_change (run (step n c) xs) ys ≡ true) = parts-allowed (step n c) xs ys (rest-allowed n c (xs ++ ys) e) in
    (true-both (first-allowed n c (xs ++ ys) e) rest.0, rest.1)

-- what is kept by each allowed call is kept by a list of them
pub kept_run : (P : Network → Type 0) → ((n : Network) (c : Call) → Allowed n c → P n → P (step n c)) → (n : Network) (cs : List Call) → has_no_change n cs ≡ true → P n → P (run n cs)
unfolding run
kept_run P kept n [] e p = p
kept_run P kept n (c ∷ cs) e p = kept_run P kept (step n c) cs (rest-allowed n c cs e) (kept n c (first-allowed n c cs e) p)

-- what is said of the plan, the views, the numbers and the ends that are down alone
abbrev pub Fixed : Type 1
Fixed = Plan → (ℕ → ℕ) → (ℕ → ℕ) → (ℕ → Bool) → Type 0

abbrev pub Of : Fixed → Network → Type 0
Of P n = P n.plan n.view n.number n.records.down

pub fixed-step : (P : Fixed) {n m : Network} → AllowedStep n m → Of P n → Of P m
unfolding after_delivery received_at
fixed-step P (moves ms) p = p
fixed-step P (delivers q ms h) p = p

pub fixed-run : (P : Fixed) (n : Network) (cs : List Call) → has_no_change n cs ≡ true → Of P n → Of P (run n cs)
fixed-run P n cs = kept_run (Of P) (λ m c h p. fixed-step P (allowed-step m c h) p) n cs
