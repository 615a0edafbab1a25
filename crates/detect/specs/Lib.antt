pub mod Pairs
pub mod Table
pub mod Offers
pub mod Reports
pub mod Steps
pub mod Whole
pub mod Meetings
