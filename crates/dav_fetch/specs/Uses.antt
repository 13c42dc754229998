-- What the code calls what an answer does to a file.
use Rattle.std.specs.Prelude.{◌≡◌, ℕ, List, Option, None, Some}
use Rattle.dav_io.specs.declared.fields.Field.{Field}
use Rattle.dav_core.specs.Path.{Names}
use Rattle.dav_fetch.specs.declared.copied.Kept.{Kept}
use Rattle.dav_fetch.specs.declared.judging.Judged.{Judged}
use Rattle.dav_fetch.specs.declared.judging.Judged.TheVariants.{Gives, Keeps, Refuses, Spoils, NoMemory}
use Rattle.dav_fetch.specs.Asking.{awaits}
use Rattle.dav_fetch.specs.Judging.{Use, gives, keeps, refuses, spoils, replaced, use_of}

-- the use of an answer is this, of a file of which `old` is kept
abbrev pub Means : Use → Option Kept → Judged → Type 0
Means worth old (Gives f n) = worth ≡ gives f n
Means worth old (Keeps k) = (worth ≡ keeps) × (k ≡ old)
Means worth old (Refuses k) = (worth ≡ refuses) × (k ≡ old)
Means worth old (Spoils k) = (worth ≡ spoils) × (k ≡ old)
Means worth old (NoMemory k) = k ≡ old

abbrev pub IsJudged : Names → Option Kept → ℕ → List Field → Judged → Type 0
IsJudged path old status fields judged = Means (use_of path (awaits old) status fields) old judged

abbrev pub IsNew : Names → List Field → Option (Kept × ℕ) → Type 0
IsNew path fields None = replaced path fields ≡ spoils
IsNew path fields (Some new) = replaced path fields ≡ gives new.0 new.1
