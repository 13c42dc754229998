-- What holds of the metadata that a local store gives: laws that its type cites.
use Rattle.std.specs.Prelude.{ℕ, List, Bool, false}
use Rattle.dav_core.specs.DavPath.{is_in_home}
use Rattle.dav_core.specs.Info.{AreInYears}
use Rattle.dav_core.specs.InfoInYears.{info_in_years}
use Rattle.dav_core.specs.Path.{Names}
use Rattle.dav_core.specs.TagBytes.{info_has_tag_bytes}
use Rattle.dav_core.specs.Tags.{HasTagBytes}
use Rattle.dav_store.specs.Void.{empty_in_years}
use Rattle.dav_local.specs.declared.meta.LocalFsMetaData.{LocalFsMetaData}
use Rattle.dav_local.specs.declared.meta.LocalFsMetaData.TheVariants.{Found, Empty}
use Rattle.dav_local.specs.Files.{local_info}

-- whether a path lies in a home; the empty files lie in none
abbrev pub lies_in : List ℕ → LocalFsMetaData → Names → Bool
lies_in home (Found meta) names = is_in_home home names
lies_in home Empty names = false

pub in_years : (m : LocalFsMetaData) → AreInYears (local_info m)
in_years (Found meta) = info_in_years meta
in_years Empty = empty_in_years

pub tag_bytes : (m : LocalFsMetaData) → HasTagBytes (local_info m).tag
tag_bytes (Found meta) = info_has_tag_bytes meta
tag_bytes Empty = tt
