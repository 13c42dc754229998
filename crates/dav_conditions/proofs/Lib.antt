mod OwnTag
mod TagsCompared
mod Unconditional
