-- What the rules show of a world could stand anywhere.
use Rattle.std.proofs.Common.{◌≡◌, refl, ap, subst, inl, inr, ◌&&◌, ◌||◌, ◌==◌, ◌<◌, ◌+◌, ◌-◌, Bool, true, false, cond, ℕ, zero, suc, List, [], ◌∷◌, length, map, arith, None, Some, Result, Ok, Err}
use Rattle.std.specs.Prelude.{pos, slice_get}
use Rattle.std.specs.List.{AllByRecursion, filter}
use Rattle.std.proofs.lemmas.Bool.{and_parts, eqb-true}
use Rattle.std.proofs.lemmas.List.Elements.{recursion_from_All}
use Rattle.dav_core.specs.declared.error.FsError.{FsError}
use Rattle.dav_core.specs.declared.error.FsError.TheVariants as fs
use Rattle.dav_core.specs.declared.handle.DiskError.{DiskError}
use Rattle.dav_core.specs.declared.handle.Meta.{Meta}
use Rattle.dav_core.specs.declared.time.FileTime.{FileTime}
use Rattle.dav_core.specs.declared.tree.Row.{Row}
use Rattle.dav_core.specs.declared.tree.Kind.{Kind}
use Rattle.dav_core.specs.declared.tree.Kind.TheVariants.{Dir, File, Link}
use Rattle.dav_core.specs.DavPath.{WebPath}
use Rattle.dav_core.specs.Errors.{CouldRefuse, fs_error_of}
use Rattle.dav_core.specs.Info.{is_in_years}
use Rattle.dav_core.specs.InfoInYears.{info_in_years}
use Rattle.dav_core.specs.Listing.{listable, or_empty, stands_in}
use Rattle.dav_core.specs.Members.{member_of}
use Rattle.dav_core.specs.Path.{Names, all_plain, is_front, is_plain}
use Rattle.dav_core.specs.TagBytes.{info_has_tag_bytes}
use Rattle.dav_core.specs.Tree.{IsTreeRefusal, below_kind, is_file, look}
use Rattle.dav_core.proofs.LookLemmas.{look_err}
use Rattle.dav_core.specs.World.{IsPlain, IsWorld, World}
use Rattle.dav_page.specs.Listed.{HasPlainName}
use Rattle.dav_model.specs.Finding.{Finding, empty_file, has_slash, is_forbidden, is_localized, is_virtual, looked_at, members_or, opened_at, shown_by, stood_at}
use Rattle.dav_model.specs.Head.{Stood, stood_in}
use Rattle.dav_model.specs.Rules.{Rules}
use Rattle.dav_model.specs.Shown.{Could, CouldShow, CouldStand}

-- what a row is, as far as an answer speaks of it
pub stood_could : (w : World) (row : Row) → CouldStand (stood_in w row)
stood_could w row =
    let m : Meta = record { kind = row.kind; number = row.number; len = (stood_in w row).len; modified = Some row.time; created = None; accessed = None; changed = None; exec = false } in
    record { tag = info_has_tag_bytes m; modified = (info_in_years m).modified; address = tt }

refusal_could : (e : DiskError) → IsTreeRefusal e → CouldRefuse (fs_error_of e)
refusal_could e (inl is) = inl (ap fs_error_of is)
refusal_could e (inr is) = inr (ap fs_error_of is)

slashed_could : (b : Bool) (w : World) (row : Row) → Could CouldStand (cond b (Err fs.Forbidden) (Ok (stood_in w row)))
slashed_could true w row = inr refl
slashed_could false w row = stood_could w row

stands_could : (slash : Bool) (w : World) (path : Names) (found : Result Row DiskError) → look w.tree path ≡ found → Could CouldStand (stood_at slash w found)
stands_could slash w path (Ok row) e = slashed_could (slash && is_file row.kind) w row
stands_could slash w path (Err d) e = refusal_could d (look_err w.tree path d e)

either_could : (b : Bool) (x y : Result Stood FsError) → Could CouldStand x → Could CouldStand y → Could CouldStand (cond b x y)
either_could true x y p q = p
either_could false x y p q = q

empty_could : CouldStand empty_file
empty_could = record {
  tag = tt;
  modified = λ time e. (let same : record { secs = pos 959652000; nanos = 0 } ≡ time = cc in subst (λ (t : FileTime). is_in_years t.secs ≡ true) same refl);
  address = tt;
}

looked_could : (rules : Rules) (w : World) (f : Finding) (path : WebPath) → Could CouldStand (looked_at rules w f path)
looked_could rules w f path = either_could (is_virtual rules path) (Ok empty_file) _ empty_could
    (either_could ((rules.macos && is_localized (f.looks path.names)) || f.denies (f.looks path.names)) (Err fs.NotFound) _ (inl refl)
    (stands_could (has_slash rules.alone path) w (f.looks path.names) _ refl))

opened_could : (rules : Rules) (w : World) (f : Finding) (path : WebPath) → Could CouldStand (opened_at rules w f path)
opened_could rules w f path = either_could (is_forbidden rules path || has_slash rules.alone path) (Err fs.Forbidden) _ (inr refl)
    (stands_could false w (f.opens path.names) _ refl)

-- the last name of a path of plain names
last_plain : (path : Names) (n : ℕ) → all_plain path ≡ true → n < length path → is_plain (or_empty (slice_get path n)) ≡ true
last_plain [] n plain lt = absurd (omega (arith, lt))
last_plain (name ∷ path) zero plain lt = (and_parts (is_plain name) (all_plain path) plain).0
last_plain (name ∷ path) (suc n) plain lt = last_plain path n (and_parts (is_plain name) (all_plain path) plain).1 (omega (arith, lt))

member_plain : (w : World) (dir : Names) (row : Row) → IsPlain row → stands_in dir row ≡ true → HasPlainName (member_of w row)
member_plain w dir row plain stands =
    let long : length row.path ≡ length dir + 1 = eqb-true (length row.path) (length dir + 1) (and_parts (length row.path == length dir + 1) (is_front dir row.path) stands).0 in
    last_plain row.path (length row.path - 1) plain (omega (arith, long))

members_plain : (w : World) (dir : Names) (rows : List Row) → AllByRecursion IsPlain rows → AllByRecursion HasPlainName (map (member_of w) (filter (stands_in dir) rows))
members_plain w dir [] all = tt
members_plain w dir (row ∷ rows) all = by (stands_in dir row) refl (members_plain w dir rows all.1)
  where
    by : (b : Bool) → stands_in dir row ≡ b → AllByRecursion HasPlainName (map (member_of w) (filter (stands_in dir) rows))
        → AllByRecursion HasPlainName (map (member_of w) (cond b (row ∷ filter (stands_in dir) rows) (filter (stands_in dir) rows)))
    by true stands rest = (member_plain w dir row all.0 stands, rest)
    by false other rest = rest

list_could : (w : World) (dir : Names) (found : Result Row DiskError) → IsWorld w → look w.tree dir ≡ found → Could (AllByRecursion HasPlainName) (members_or w dir (listable found))
list_could w dir (Err d) is e = refusal_could d (look_err w.tree dir d e)
list_could w dir (Ok row) is e = by_kind row.kind
  where
    by_kind : (kind : Kind) → Could (AllByRecursion HasPlainName) (members_or w dir (below_kind kind (Ok row)))
    by_kind Dir = members_plain w dir w.tree (recursion_from_All IsPlain w.tree is.plain)
    by_kind File = inr refl
    by_kind Link = inr refl

-- What is shown of a world, whatever is made of paths, could stand anywhere.
pub world_could : (rules : Rules) (w : World) (f : Finding) → IsWorld w → CouldShow (shown_by rules w f)
world_could rules w f is = record {
  looked = looked_could rules w f;
  opened = opened_could rules w f;
  listed = λ path. list_could w (f.lists path.names) _ is refl;
}
