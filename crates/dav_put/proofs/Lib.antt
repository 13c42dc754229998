mod WholeStored
mod Poured
mod Ended
mod TokensTried
mod Performed
mod Failing
mod Numbers
mod WordsSaid
