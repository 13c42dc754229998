-- The members of directories: names, and the place that each has.
use Rattle.std.specs.Prelude.{◌≡◌, ℕ, List, Bool, Option, None, Some}
use Rattle.std.specs.List.{IsDistinct}
use Rattle.std.specs.Set.{is_member}
use Rattle.std.specs.Option.{is_some}
use Rattle.std.specs.Ordering.{nat_cmp, eq_by_cmp}
use Rattle.std.specs.Cmp.Lexicographic.{slice_cmp}
use Rattle.std.specs.BTreeMap.{BTreeMap, get_by}
use Rattle.std.specs.Global.{Vec}
use Rattle.dav_core.specs.Path.{Names}
use Rattle.dav_disk.specs.Listings.{AreSorted}

-- the place of a member, where its directory has members
abbrev pub member_in : Option (BTreeMap (List ℕ) ℕ) → List ℕ → Option ℕ
member_in None name = None
member_in (Some members) name = get_by (slice_cmp nat_cmp name) members

-- the members of a directory, where it has some
abbrev pub members_of : BTreeMap (Vec (List ℕ)) (BTreeMap (List ℕ) ℕ) → Names → Option (BTreeMap (List ℕ) ℕ)
members_of dirs dir = get_by (λ k. slice_cmp (slice_cmp nat_cmp) dir k.items) dirs

-- whether a name is one of these
abbrev pub has_name : Names → List ℕ → Bool
has_name names name = is_member (eq_by_cmp (slice_cmp nat_cmp)) names name

-- no name stands twice
abbrev pub IsEachOnce : Names → Type 0
IsEachOnce names = IsDistinct (eq_by_cmp (slice_cmp nat_cmp)) names

-- All names of these members, each once and in order of their bytes.
abbrev pub AreNamesOf : Option (BTreeMap (List ℕ) ℕ) → Names → Type 0
AreNamesOf members names =
    IsEachOnce names × AreSorted names × ((name : List ℕ) → has_name names name ≡ is_some (member_in members name))

-- all names that have a place in a directory, by the members of directories
abbrev pub AreNamesIn : BTreeMap (Vec (List ℕ)) (BTreeMap (List ℕ) ℕ) → Names → Names → Type 0
AreNamesIn dirs dir names = AreNamesOf (members_of dirs dir) names
