pub mod OpenStill
