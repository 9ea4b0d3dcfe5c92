-- The laws of a run, each file named after what it says. Unique, ExactlyWhen and InTurn are the theorems about its promise, RunHistory that
-- demand 3 holds of runs. The functions' proofs cite Call (one call), Steps (call after call), Answered (from the check to the promise);
-- for a run by the table LeftSaid and Standing, and for reading a row RowTotals and RowShare.
mod Written
pub mod Unique
pub mod ExactlyWhen
pub mod InTurn
pub mod RunHistory
mod Call
mod Steps
mod Answered
mod LeftSaid
mod Standing
mod RowShare
mod RowTotals
