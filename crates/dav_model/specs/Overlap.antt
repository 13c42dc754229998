-- Paths that lie one inside the other.
use Rattle.std.specs.Prelude.{◌||◌, ℕ, Bool, true, false, List}
use Rattle.std.specs.Str.{bytes_eq}
use Rattle.dav_core.specs.Path.{Names, is_front}
use Rattle.dav_model.specs.Folds.{fold_name, fold_path}

-- Two names are one to a store, by whether it folds them.
abbrev pub same_name : Bool → List ℕ → List ℕ → Bool
same_name true one other = bytes_eq (fold_name one) (fold_name other)
same_name false one other = bytes_eq one other

-- names as a store tells them apart, by whether it folds them
abbrev pub told_apart : Bool → Names → Names
told_apart true names = fold_path names
told_apart false names = names

-- Two paths are one, or one lies inside the other.
abbrev pub overlap : Bool → Names → Names → Bool
overlap folds one other = is_front (told_apart folds one) (told_apart folds other) || is_front (told_apart folds other)
    (told_apart folds one)
