-- The laws behind the running totals: Total says what the face gives where the weights keep their rule, and where they don't; FirstDue and
-- Fitting what a scan finds and what numbers stay below. The functions' proofs cite Places (loops over places), Scan and Straddling (the
-- scan for a straddler), Laid and Filled (the slots of a window), Walked (its units) and Cycles (the whole cycles).
pub mod Places
pub mod Total
pub mod FirstDue
pub mod Fitting
mod Scan
mod Straddling
mod Laid
mod Walked
mod Filled
mod Cycles
