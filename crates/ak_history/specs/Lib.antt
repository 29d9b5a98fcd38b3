pub mod Answers
pub mod Events
pub mod Legal
pub mod Reading
pub mod Scheduler
pub mod Taking
pub mod Text
