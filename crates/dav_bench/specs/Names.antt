-- The names of the large input: as they stand in its tree, and as they are asked for.
use Rattle.std.specs.Prelude.{ℕ, false, List, [], ◌∷◌, ◌++◌, codes, decimal}
use Rattle.dav_core.specs.DavPath.{WebPath}
use Rattle.dav_core.specs.Path.{Names}

-- directory i, and file j of it
abbrev pub dir_name : ℕ → List ℕ
dir_name i = codes "Dir" ++ decimal i

abbrev pub file_name : ℕ → List ℕ
file_name j = codes "File" ++ decimal j

abbrev pub dir_path : ℕ → Names
dir_path i = dir_name i ∷ []

abbrev pub file_path : ℕ → ℕ → Names
file_path i j = dir_name i ∷ file_name j ∷ []

-- the same as they are asked for, which fold like them
abbrev pub asked_dir : ℕ → List ℕ
asked_dir i = codes "dir" ++ decimal i

abbrev pub asked_file : ℕ → List ℕ
asked_file j = codes "file" ++ decimal j

abbrev pub asked_path : ℕ → ℕ → Names
asked_path i j = asked_dir i ∷ asked_file j ∷ []

-- the path that is asked for, and the text by which it is
abbrev pub asked_at : ℕ → ℕ → WebPath
asked_at i j = record { prefix = []; names = asked_path i j; slash = false }

abbrev pub target : ℕ → ℕ → List ℕ
target i j = codes "/dir" ++ (decimal i ++ (codes "/file" ++ decimal j))
