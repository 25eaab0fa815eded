pub mod TagTable
pub mod Laws
pub mod CostRows
pub mod EventLaws
pub mod EventLoop
pub mod Reached
