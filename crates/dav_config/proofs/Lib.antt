mod AsBefore
mod Causes
mod Draining
mod Failures
pub mod Gated
mod Giving
mod Merged
mod Names
mod Owned
mod Pieces
mod Polling
mod RefusedFields
mod Served
mod Starved
mod Staying
pub mod Unstored
mod WriteCauses
mod WriteFaults
