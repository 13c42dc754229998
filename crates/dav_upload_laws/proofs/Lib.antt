mod LocalTakes
mod LocalReading
mod Places
mod Succeeds
mod SweptExactly
mod SweptBefore
mod GetsLeave
