-- The laws of the taker and of the running totals, each file named after what it says.
-- Where W, the sum of the weights, is at least 1, the totals at n add to n (Added), stand between each share rounded down (Floor) and
-- rounded up (Ceiling), and repeat after W units (Repeats).
-- A program need not go through every unit: from any u whose mass is below W nobody is ahead (Start), each later unit is settled by a count
-- and at times a scan (Step, Straddler), and the totals at n follow (Window); the count is a running sum over slots (Calendar, Slots). Loops
-- and Bounds have these in a program's variables. A table of one cycle gives every total (Mask).
pub mod Best
pub mod Due
pub mod Taker
pub mod Someone
pub mod Added
pub mod Ceiling
pub mod Floor
pub mod Repeats
pub mod Scaling
pub mod Counted
pub mod Worked
pub mod Shortcuts
pub mod Straddle
pub mod Places
pub mod Step
pub mod Straddler
pub mod Start
pub mod Window
pub mod Calendar
pub mod Slots
pub mod Quotient
pub mod Loops
pub mod Bounds
pub mod Mask
pub mod Windowed
