-- What a fetch leaves is a copy again: in order, each file with a tag or none, and no longer than its length.
use Rattle.std.proofs.Common.{◌≡◌, inl, inr, ◌≤◌, ◌-◌, ◌+◌, ◌==◌, ◌++◌, ℕ, List, [], ◌∷◌, length, map, take, codes, Bool, true, false, cond, Option, None, Some, IfSome, Result, Ok, Err, Less, refl, sym, ap, subst, ◌∙◌, arith, append_assoc, append-nil}
use Rattle.std.specs.List.{AllByRecursion}
use Rattle.std.specs.Option.{option_to_list}
use Rattle.std.proofs.lemmas.List.{length-append, length-take}
use Rattle.dav_io.specs.declared.fields.Field.{Field}
use Rattle.dav_core.specs.declared.etag.ETag.{ETag}
use Rattle.dav_core.specs.Path.{Names}
use Rattle.dav_core.specs.TagReading.{tag_of}
use Rattle.dav_core.specs.Tags.{weak_mark}
use Rattle.dav_core.proofs.TagLaws.{tag_sound}
use Rattle.dav_model.specs.Announced.{value_of}
use Rattle.dav_fetch.specs.declared.copied.Copied.{Copied}
use Rattle.dav_fetch.specs.declared.copied.Kept.{Kept}
use Rattle.dav_fetch.specs.declared.error.MirrorError.{MirrorError}
use Rattle.dav_fetch.specs.Asking.{Awaits, awaits, whole, rest, same}
use Rattle.dav_fetch.specs.Copy.{IsCopy, IsKept, IsOf, IsTagValue, path_cmp}
use Rattle.dav_fetch.specs.Fetching.{AtFile, Fetched, FilesEnd, FilesKept, Goes, Requests, Stretch, Takes, Files, IsFileVisit, kept_at, kept_of, taken}
use Rattle.dav_fetch.specs.Judging.{Use, gives, grown, keeps, refuses, spoils, if_strong, is_rest_of, new_file, number_said, replaced, rest_use, strong_said, use_of}
use Rattle.dav_fetch.specs.Keeping.{AreAscending, AreInOrder}
use Rattle.dav_fetch.specs.Peer.{PeerState}
use Rattle.dav_fetch.specs.Walk.{Visit, Way}
use Rattle.dav_fetch.proofs.Orders.{both_ascend, none_ascend, first_below, behind_first}
use Rattle.dav_fetch.proofs.Soundness.{found}

-- a file of a path that is kept well
pub record IsWell (names : Names) (k : Kept) : Type 0 where
  pub path : k.path ≡ names
  pub kept : IsKept k

-- files at some of these paths, in their order
abbrev pub Along : List Names → List Kept → Type 0
Along [] files = files ≡ []
Along (path ∷ paths) files = (o : Option Kept) × (more : List Kept) × (files ≡ option_to_list o ++ more) × IfSome o (IsWell path) × Along paths more

along_below : (p : Names) (paths : List Names) (files : List Kept) → AllByRecursion (λ q. path_cmp p q ≡ Less) paths → Along paths files
    → AllByRecursion (λ q. path_cmp p q ≡ Less) (map (λ (f : Kept). f.path) files)
along_below p [] files below none = subst (λ fs. AllByRecursion (λ q. path_cmp p q ≡ Less) (map (λ (f : Kept). f.path) fs)) (sym none) tt
along_below p (path ∷ paths) files below (None, more, is, well, along) =
    subst (λ fs. AllByRecursion (λ q. path_cmp p q ≡ Less) (map (λ (f : Kept). f.path) fs)) (sym is) (along_below p paths more below.1 along)
along_below p (path ∷ paths) files below (Some k, more, is, well, along) =
    subst (λ fs. AllByRecursion (λ q. path_cmp p q ≡ Less) (map (λ (f : Kept). f.path) fs)) (sym is)
    (subst (λ q. path_cmp p q ≡ Less) (sym well.path) below.0, along_below p paths more below.1 along)

along_order : (paths : List Names) (files : List Kept) → AreAscending paths → Along paths files → AreInOrder files
along_order [] files up none = subst AreInOrder (sym none) none_ascend
along_order (path ∷ paths) files up (None, more, is, well, along) = subst AreInOrder (sym is) (along_order paths more (behind_first path paths up) along)
along_order (path ∷ paths) files up (Some k, more, is, well, along) =
    subst AreInOrder (sym is) (both_ascend k.path (map (λ (f : Kept). f.path) more)
    (subst (λ p. AllByRecursion (λ q. path_cmp p q ≡ Less) (map (λ (f : Kept). f.path) more)) (sym well.path) (along_below path paths more (first_below path paths up) along))
    (along_order paths more (behind_first path paths up) along))

along_kept : (paths : List Names) (files : List Kept) → Along paths files → AllByRecursion IsKept files
along_kept [] files none = subst (AllByRecursion IsKept) (sym none) tt
along_kept (path ∷ paths) files (None, more, is, well, along) = subst (AllByRecursion IsKept) (sym is) (along_kept paths more along)
along_kept (path ∷ paths) files (Some k, more, is, well, along) = subst (AllByRecursion IsKept) (sym is) (well.kept, along_kept paths more along)

-- ---- one file

pub kept_well : (path : Names) (old : List Kept) → AllByRecursion IsKept old → (o : Option Kept) → kept_at path old ≡ o → IfSome o (IsWell path)
kept_well path old each None e = tt
kept_well path old each (Some k) e = record { path = (found path old k e).0; kept = of old each k (found path old k e).1 }
  where
    of : (old : List Kept) → AllByRecursion IsKept old → (k : Kept) → IsOf k old → IsKept k
    of [] each k is = absurd is
    of (f ∷ fs) each k (inl here) = subst IsKept (sym here) each.0
    of (f ∷ fs) each k (inr more) = of fs each.1 k more

strong_tag : (o : Option (List ℕ)) → IsTagValue (strong_said o)
strong_tag None = inl refl
strong_tag (Some value) = by (tag_of value) refl
  where
    by : (t : Option ETag) → tag_of value ≡ t → IsTagValue (if_strong value t)
    by None e = inl refl
    by (Some tag) e = weak tag.weak refl
      where
        weak : (b : Bool) → tag.weak ≡ b → IsTagValue (cond b [] value)
        weak true w = inl refl
        weak false w =
            let is = tag_sound value tag e in
            inr (tag.tag, is.bytes, is.same ∙ ap (λ b. weak_mark b ++ (34 ∷ (tag.tag ++ 34 ∷ []))) w)

grown_kept : (f : Kept) (n : ℕ) (came : List ℕ) → IsTagValue f.tag → length f.bytes + n ≤ f.len → IsKept (grown f n came)
grown_kept f n came tag within = record { tag = tag; within = omega (arith, within, length-append f.bytes (take n came), length-take n came) }

abbrev GivesWell : Names → List ℕ → Use → Type 0
GivesWell path came (gives f n) = IsWell path (grown f n came)
GivesWell path came keeps = Unit {0}
GivesWell path came refuses = Unit {0}
GivesWell path came spoils = Unit {0}

replaced_well : (path : Names) (fields : List Field) (came : List ℕ) → GivesWell path came (replaced path fields)
replaced_well path fields came = by (number_said (value_of (codes "content-length") fields))
  where
    by : (o : Option ℕ) → GivesWell path came (new_file path fields o)
    by None = tt
    by (Some n) = record { path = refl; kept = grown_kept (record { path = path; tag = strong_said (value_of (codes "etag") fields); len = n; bytes = [] }) n came (strong_tag (value_of (codes "etag") fields)) (omega arith) }

rest_well : (path : Names) (k : Kept) (fields : List Field) (came : List ℕ) → IsWell path k → GivesWell path came (rest_use k fields)
rest_well path k fields came well = by (is_rest_of k fields)
  where
    by : (b : Bool) → GivesWell path came (cond b (gives k (k.len - length k.bytes)) spoils)
    by true = record { path = well.path; kept = grown_kept k (k.len - length k.bytes) came well.kept.tag (omega (arith, well.kept.within)) }
    by false = tt

pick : (path : Names) (came : List ℕ) (b : Bool) (x y : Use) → GivesWell path came x → GivesWell path came y → GivesWell path came (cond b x y)
pick path came true x y p q = p
pick path came false x y p q = q

abbrev AwaitsWell : Names → Awaits → Type 0
AwaitsWell path whole = Unit {0}
AwaitsWell path (rest k) = IsWell path k
AwaitsWell path (same k) = IsWell path k

awaits_well : (path : Names) (o : Option Kept) → IfSome o (IsWell path) → AwaitsWell path (awaits o)
awaits_well path None well = tt
awaits_well path (Some k) well = by (length k.tag == 0) (length k.bytes == k.len) (length k.bytes == 0)
  where
    by : (a b c : Bool) → AwaitsWell path (cond a whole (cond b (same k) (cond c whole (rest k))))
    by true b c = tt
    by false true c = well
    by false false true = tt
    by false false false = well

use_well : (path : Names) (a : Awaits) (status : ℕ) (fields : List Field) (came : List ℕ) → AwaitsWell path a → GivesWell path came (use_of path a status fields)
use_well path whole status fields came well = pick path came (status == 200) (replaced path fields) refuses (replaced_well path fields came) tt
use_well path (rest k) status fields came well =
    pick path came (status == 200) (replaced path fields) (cond (status == 206) (rest_use k fields) refuses) (replaced_well path fields came)
    (pick path came (status == 206) (rest_use k fields) refuses (rest_well path k fields came well) tt)
use_well path (same k) status fields came well =
    pick path came (status == 200) (replaced path fields) (cond (status == 304) keeps refuses) (replaced_well path fields came) (pick path came (status == 304) keeps refuses tt tt)

taken_well : (path : Names) (old : List Kept) (visit : Visit) (worth : Use) → AllByRecursion IsKept old → IsFileVisit path (kept_at path old) visit worth
    → IfSome (taken (kept_at path old) worth visit.came) (IsWell path)
taken_well path old visit worth each is =
    by worth (subst (GivesWell path visit.came) is.judged (use_well path (awaits (kept_at path old)) visit.got.status visit.got.headers visit.came (awaits_well path (kept_at path old) stays)))
  where
    stays : IfSome (kept_at path old) (IsWell path)
    stays = kept_well path old each (kept_at path old) refl

    by : (worth : Use) → GivesWell path visit.came worth → IfSome (taken (kept_at path old) worth visit.came) (IsWell path)
    by (gives f n) well = well
    by keeps well = stays
    by refuses well = stays
    by spoils well = stays

-- ---- all of them

kept_along : (paths : List Names) (old : List Kept) → AllByRecursion IsKept old → Along paths (kept_of paths old)
kept_along [] old each = refl
kept_along (path ∷ paths) old each = (kept_at path old, kept_of paths old, refl, kept_well path old each (kept_at path old) refl, kept_along paths old each)

files_along : (old : List Kept) (paths : List Names) (visits : List Visit) (got : List Kept) (left : List Names) (more : List Kept) → AllByRecursion IsKept old
    → Files old paths visits got left → Along left more → Along paths (got ++ more)
files_along old paths [] got left more each (none, stays) along = subst (λ g. Along paths (g ++ more)) (sym none) (subst (λ p. Along p more) stays along)
files_along old [] (v ∷ vs) got left more each took along = absurd took
files_along old (path ∷ paths) (v ∷ vs) got left more each (worth, next, is, came_whole, parts, took) along = (
  taken (kept_at path old) worth v.came,
  next ++ more,
  ap (λ g. g ++ more) parts ∙ append_assoc (option_to_list (taken (kept_at path old) worth v.came)) next more,
  taken_well path old v worth each is,
  files_along old paths vs next left more each took along,
)

at_file_along : (files : FilesKept) (left : List Names) (count : Requests) (e : MirrorError) (last : Stretch) → AllByRecursion IsKept files.old
    → AtFile left files count e last → (more : List Kept) × (files.new ≡ files.got ++ more) × Along left more
at_file_along files [] count e last each end = absurd end
at_file_along files (path ∷ paths) count e last each (inl not) = (kept_of (path ∷ paths) files.old, not.kept, kept_along (path ∷ paths) files.old each)
at_file_along files (path ∷ paths) count e last each (inr asked) = (
  option_to_list (taken (kept_at path files.old) asked.worth asked.visit.came) ++ kept_of paths files.old,
  asked.kept,
  (taken (kept_at path files.old) asked.worth asked.visit.came, kept_of paths files.old, refl, taken_well path files.old asked.visit asked.worth each asked.is, kept_along paths files.old each),
)

ends_along : (files : FilesKept) (left : List Names) (count : Requests) (result : Result Unit MirrorError) (last : Stretch) → AllByRecursion IsKept files.old
    → FilesEnd left files count result last → (more : List Kept) × (files.new ≡ files.got ++ more) × Along left more
ends_along files left count (Ok x) last each (none, alone, stays, is) = ([], is ∙ sym (append-nil files.got), subst (λ p. Along p []) (sym none) refl)
ends_along files left count (Err e) last each end = at_file_along files left count e last each end

takes_copy : (way : Way) (count : Requests) (old : Copied) (asks : Stretch) (result : Result Unit MirrorError) (new : Copied) → IsCopy old → Takes way count old asks result new → IsCopy new
takes_copy way count old asks result new copy takes =
    let (more, is, along) = ends_along (record { old = old.files; got = takes.got; new = new.files }) takes.left _ result _ copy.each takes.ends in
    let all : Along takes.paths new.files = subst (Along takes.paths) (sym is) (files_along old.files takes.paths takes.visits takes.got takes.left more copy.each takes.took along) in
    record { dirs = takes.dirs.order; files = along_order takes.paths new.files takes.ordered.order all; each = along_kept takes.paths new.files all }

goes_copy : (due : List Names) (way : Way) (count : Requests) (old : Copied) (asks : Stretch) (result : Result Unit MirrorError) (new : Copied) → IsCopy old → Goes due way count old asks result new → IsCopy new
goes_copy [] way count old asks result new copy (inl takes) = takes_copy way count old asks result new copy takes
goes_copy [] way count old asks result new copy (inr un) = subst IsCopy (sym un.same) copy
goes_copy (dir ∷ due) way count old asks (Ok x) new copy goes = absurd goes
goes_copy (dir ∷ due) way count old asks (Err e) new copy (at, stays) = subst IsCopy (sym stays) copy

pub fetched_copy : (s t : PeerState) (old new : Copied) (most : ℕ) (result : Result Unit MirrorError) → Fetched s old most result t new → IsCopy old → IsCopy new
fetched_copy s t old new most result f copy = goes_copy f.way.due f.way _ old _ result new copy f.goes
