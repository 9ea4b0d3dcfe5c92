-- The laws behind a table of one cycle: Table says what `fill_cycle` leaves in it. The functions' proofs cite Bounds (what numbers stay below),
-- Taker (the place that is due first takes the unit), RowBits (a row bit by bit) and Walk (the units).
pub mod Bounds
pub mod Table
mod Taker
mod RowBits
mod Walk
