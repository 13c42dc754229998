pub mod ActsJoined
pub mod CallsDoActs
pub mod ListingsLead
pub mod KeptOpen
