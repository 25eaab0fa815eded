-- What the private functions do, number by number, and what they ask of each other. No public contract cites these files.
pub mod Types
pub mod Views
pub mod Changes
pub mod Queue
pub mod Deliveries
pub mod Answers
pub mod Chains
pub mod ListSteps
pub mod Steps
