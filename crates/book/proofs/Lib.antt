-- The laws of the share book, each file named after what it says. Demand3 is the theorem about histories; Lists, Calls and Histories are
-- its lemmas: of the lists of payouts, of one call, of any number of calls. The functions' proofs cite Answered, which leads from a call's
-- checks to its promise, Exits for the exits of these checks, SettledSaid for the settled totals' part, and Made for an array made by places.
pub mod Lists
pub mod SettledTotals
mod SettledSaid
pub mod Told
pub mod Given
pub mod Calls
pub mod Histories
pub mod NetIs
pub mod Demand3
pub mod OverCards
pub mod Quarter
pub mod SameCards
pub mod Broken
pub mod ZeroBook
pub mod Unique
pub mod ExactlyWhen
pub mod Lines
pub mod UselessBuilds
mod Answered
mod CardAnswered
mod Exits
mod Made
