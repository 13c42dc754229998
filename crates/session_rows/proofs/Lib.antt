mod Fitting
mod Quiet
mod Telling
mod Untold
