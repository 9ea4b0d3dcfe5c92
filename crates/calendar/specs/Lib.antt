pub mod Calendar
pub mod CalendarOrder
pub mod DayCount
pub mod DaysSaid
pub mod Counting
pub mod Numbered
