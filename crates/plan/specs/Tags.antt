-- The table of tags (docs/PROTOCOL.md, "The plan file"): a field's tag, its place in the plan, and the length of its value. Assumes nothing.
use Rattle.std.specs.Prelude.{ℕ, ◌*◌, ◌≡◌, Bool, true, false, cond, ◌||◌, List, [], ◌∷◌, eqb, leb}
use Rattle.plan.specs.Sizes.{cost_bytes}
use Rattle.plan.specs.declared.tags.Place.{Place}
use Rattle.plan.specs.declared.tags.Place.TheVariants.{First, BeforeViews, BeforeEvents, AfterView}
use Rattle.plan.specs.declared.tags.Length.{Length}
use Rattle.plan.specs.declared.tags.Length.TheVariants.{Bytes, CostPerLink}

pub record Row : Type 0 where
  pub tag : ℕ
  pub place : Place
  pub length : Length

abbrev pub row : ℕ → Place → Length → Row
row tag place length = record { tag = tag; place = place; length = length }

unfoldable pub tags : List Row
tags =
    row 1 First (Bytes 1)  -- bridge count
    ∷ row 2 BeforeViews (Bytes 2)  -- link
    ∷ row 3 BeforeEvents CostPerLink  -- view
    ∷ row 4 AfterView (Bytes 2)  -- update
    ∷ row 5 AfterView (Bytes 2)  -- send
    ∷ row 6 AfterView (Bytes 1)  -- deliver
    ∷ row 7 AfterView (Bytes 1)  -- repeat
    ∷ row 8 AfterView (Bytes 1)  -- lose
    ∷ row 9 AfterView (Bytes 2)  -- cut
    ∷ row 10 AfterView (Bytes 2)  -- restore
    ∷ row 11 AfterView (Bytes 1)  -- report
    ∷ row 12 AfterView (Bytes 2)  -- path
    ∷ []

-- the stages of a plan at which a field may come; 0: nothing is read, 1: the bridge count is, 2: a view is, 3: an event is
unfoldable pub may_come : Place → ℕ → Bool
may_come First stage = eqb stage 0
may_come BeforeViews stage = eqb stage 1
may_come BeforeEvents stage = eqb stage 1 || eqb stage 2
may_come AfterView stage = leb 2 stage

-- the lengths that a value may have, with so many links
unfoldable pub length_fits : Length → ℕ → ℕ → Bool
length_fits (Bytes n) links length = eqb length n
length_fits CostPerLink links length = eqb length (cost_bytes * links)

-- the tag has a row in the list, and this passes the test
unfoldable pub passes : (Row → Bool) → ℕ → List Row → Bool
passes test t [] = false
passes test t (r ∷ rs) = cond (eqb t r.tag) (test r) (passes test t rs)

unfoldable pub known : ℕ → Bool
known t = passes (λ r. true) t tags

-- of the known tags, 1 to 3 set the network up and the others are events
abbrev pub is_setup : ℕ → Bool
is_setup t = leb t 3

unfoldable pub in_order : ℕ → ℕ → Bool
in_order t stage = passes (λ r. may_come r.place stage) t tags

unfoldable pub right_length : ℕ → ℕ → ℕ → Bool
right_length t links length = passes (λ r. length_fits r.length links length) t tags

-- the row that the table has for the tag: a test of the tag is a test of it
abbrev pub IsRow : ℕ → Row → Type 0
IsRow t r = (test : Row → Bool) → passes test t tags ≡ test r
