pub mod Claims
pub mod WorkedEnds
pub mod WorkedCalls
pub mod WorkedProgram
pub mod Worked
