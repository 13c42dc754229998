pub mod Pairs
pub mod Forests
pub mod Events
pub mod EventsTellForests
pub mod ForestCodes
pub mod Trees
pub mod NodesAreLower
pub mod Tokens
