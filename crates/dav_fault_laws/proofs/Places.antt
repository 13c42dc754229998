-- Members of a directory have places of their own.
use Rattle.std.proofs.Common.{◌≡◌, ◌==◌, ◌&&◌, ℕ, Bool, true, false, not, cond, List, [], ◌∷◌, ◌++◌, map, Option, None, Some, refl, sym, ap, ◌∙◌, arith}
use Rattle.std.specs.List.{AllByRecursion, filter, list_all}
use Rattle.std.proofs.lemmas.List.{append_cancel_right}
use Rattle.std.specs.Str.{bytes_eq}
use Rattle.std.proofs.lemmas.Bool.{and_parts, false_from_ne_true, not-true}
use Rattle.std.proofs.lemmas.Slice.Eq.{bytes_eq-Decides}
use Rattle.dav_core.specs.declared.member.Member.{Member}
use Rattle.dav_core.specs.declared.tree.Row.{Row}
use Rattle.dav_core.specs.DavPath.{final_slash}
use Rattle.dav_core.specs.Listing.{name_of, stands_in}
use Rattle.dav_core.specs.Members.{member_of, members}
use Rattle.dav_core.specs.Path.{Names, same_names}
use Rattle.dav_core.specs.Tree.{has_dir, is_apart, is_dir, is_free, is_placed, is_tree}
use Rattle.dav_core.specs.World.{World}
use Rattle.dav_disk.proofs.Trees.{not_both}
use Rattle.dav_page.specs.Listed.{place_of}
use Rattle.dav_core.proofs.Paths.{names_equal}
use Rattle.dav_core.proofs.Rows.{path_in}

-- ---- paths of rows in a directory

-- ---- places

-- a name with a slash behind it or not, by a kind, is told by the name
same_shown : (a b : List ℕ) (slash : Bool) → a ++ final_slash slash ≡ b ++ final_slash slash → a ≡ b
same_shown a b slash e = append_cancel_right a b (final_slash slash) e

abbrev first : List ℕ → ℕ
first [] = 0
first (b ∷ text) = b

abbrev behind : List ℕ → List ℕ
behind [] = []
behind (b ∷ text) = text

same_place : (m n : Member) → place_of m ≡ place_of n → m.name ≡ n.name
same_place m n e = by_kinds (is_dir m.kind) (is_dir n.kind) (ap first e) (ap behind e)
  where
    by_kinds : (a b : Bool) → ◌≡◌ {A = ℕ} (cond a 0 1) (cond b 0 1) → m.name ++ final_slash a ≡ n.name ++ final_slash b → m.name ≡ n.name
    by_kinds true true one rest = same_shown m.name n.name true rest
    by_kinds true false one rest = absurd (omega (arith, one))
    by_kinds false true one rest = absurd (omega (arith, one))
    by_kinds false false one rest = same_shown m.name n.name false rest

abbrev pub alike : Member → Member → Bool
alike m n = bytes_eq (place_of m) (place_of n)

pub alike_itself : (m : Member) → alike m m ≡ true
alike_itself m = (bytes_eq-Decides (place_of m) (place_of m)).1 refl

-- No place stands twice.
abbrev pub Apart : List Member → Type 0
Apart [] = Unit {0}
Apart (m ∷ ms) = AllByRecursion (λ n. alike n m ≡ false) ms × Apart ms

rows_apart : (w : World) (dir : Names) (r : Row) (rows : List Row) → is_free rows r ≡ true → stands_in dir r ≡ true
    → AllByRecursion (λ n. alike n (member_of w r) ≡ false) (map (member_of w) (filter (stands_in dir) rows))
rows_apart w dir r [] free stands = tt
rows_apart w dir r (s ∷ rows) free stands = by_row (stands_in dir s) refl (rows_apart w dir r rows parts.1 stands)
  where
    parts : ((not (same_names s.path r.path) && not (s.number == r.number)) ≡ true) × (is_free rows r ≡ true)
    parts = and_parts (not (same_names s.path r.path) && not (s.number == r.number)) (is_free rows r) free

    other : same_names s.path r.path ≡ false
    other = not-true (same_names s.path r.path) (and_parts (not (same_names s.path r.path)) (not (s.number == r.number)) parts.0).0

    apart : stands_in dir s ≡ true → alike (member_of w s) (member_of w r) ≡ false
    apart there = false_from_ne_true (alike (member_of w s) (member_of w r)) (λ e.
        let name : name_of s ≡ name_of r = same_place (member_of w s) (member_of w r) ((bytes_eq-Decides (place_of (member_of w s)) (place_of (member_of w r))).0 e) in
        let path : s.path ≡ r.path = path_in dir s there ∙ (ap (λ z. dir ++ z ∷ []) name ∙ sym (path_in dir r stands)) in
        not_both (same_names s.path r.path) (names_equal s.path r.path path) other)

    by_row : (b : Bool) → stands_in dir s ≡ b → AllByRecursion (λ n. alike n (member_of w r) ≡ false) (map (member_of w) (filter (stands_in dir) rows))
        → AllByRecursion (λ n. alike n (member_of w r) ≡ false) (map (member_of w) (cond b (s ∷ filter (stands_in dir) rows) (filter (stands_in dir) rows)))
    by_row true e later = (apart e, later)
    by_row false e later = later

apart_in : (w : World) (dir : Names) (rows : List Row) → is_apart rows ≡ true → Apart (map (member_of w) (filter (stands_in dir) rows))
apart_in w dir [] e = tt
apart_in w dir (r ∷ rows) e = by_row (stands_in dir r) refl (apart_in w dir rows parts.1)
  where
    parts : (is_free rows r ≡ true) × (is_apart rows ≡ true)
    parts = and_parts (is_free rows r) (is_apart rows) e

    by_row : (b : Bool) → stands_in dir r ≡ b → Apart (map (member_of w) (filter (stands_in dir) rows))
        → Apart (map (member_of w) (cond b (r ∷ filter (stands_in dir) rows) (filter (stands_in dir) rows)))
    by_row true e later = (rows_apart w dir r rows parts.0 e, later)
    by_row false e later = later

pub members_apart : (w : World) (dir : Names) → is_tree w.tree ≡ true → Apart (members w dir)
members_apart w dir is =
    let t = and_parts (has_dir w.tree []) (list_all (is_placed w.tree) w.tree && is_apart w.tree) is in
    apart_in w dir w.tree (and_parts (list_all (is_placed w.tree) w.tree) (is_apart w.tree) t.1).1

-- ---- a member by its place

-- the member that has a place
abbrev pub found : List Member → List ℕ → Option Member
found [] k = None
found (m ∷ ms) k = cond (bytes_eq k (place_of m)) (Some m) (found ms k)

abbrev pub IsFound : List Member → Member → Type 0
IsFound all m = found all (place_of m) ≡ Some m

found_later : (m : Member) (ms xs : List Member) → AllByRecursion (λ n. alike n m ≡ false) xs → AllByRecursion (IsFound ms) xs → AllByRecursion (IsFound (m ∷ ms)) xs
found_later m ms [] others all = tt
found_later m ms (x ∷ xs) others all = (ap (λ b. cond b (Some m) (found ms (place_of x))) others.0 ∙ all.0, found_later m ms xs others.1 all.1)

pub all_found : (ms : List Member) → Apart ms → AllByRecursion (IsFound ms) ms
all_found [] apart = tt
all_found (m ∷ ms) apart =
    (ap (λ b. cond b (Some m) (found ms (place_of m))) (alike_itself m), found_later m ms ms apart.0 (all_found ms apart.1))

abbrev member_or : Option Member → Member → Member
member_or None d = d
member_or (Some m) d = m

-- members that are found by one place are one
pub one_found : (all : List Member) (m n : Member) → IsFound all m → IsFound all n → alike m n ≡ true → m ≡ n
one_found all m n p q e =
    let place : place_of m ≡ place_of n = (bytes_eq-Decides (place_of m) (place_of n)).0 e in
    let both : Some m ≡ Some n = sym p ∙ (ap (found all) place ∙ q) in
    ap (λ o. member_or o m) both
