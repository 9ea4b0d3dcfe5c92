-- What the limits of a division are (Limits); a division is known by its quotient and its rest (Divided); a digit of a factor (Digit), its two digits and the split
-- of the other factor (Split); from the parts to the promise (Divides).
pub mod Limits
pub mod Divided
mod Digit
mod Split
mod Divides
