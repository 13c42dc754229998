-- A file whose bytes change keeps what holds of a disk's world.
use Rattle.std.proofs.Common.{◌≡◌, ◌≢◌, ◌≤◌, ◌==◌, ℕ, List, Bool, true, false, cond, map, Option, Some, subst, refl, sym, ap, ◌∙◌, arith}
use Rattle.std.specs.Option.{option_map}
use Rattle.std.proofs.lemmas.List.Elements.{All-map, All-weaker}
use Rattle.dav_core.specs.declared.tree.Row.{Row}
use Rattle.dav_core.specs.declared.time.FileTime.{FileTime}
use Rattle.dav_core.specs.Tree.{is_tree}
use Rattle.dav_core.specs.World.{World, Stored, AreGiven, IsPlain, ArePlain, put}
use Rattle.dav_core.specs.Changes.{tick}
use Rattle.dav_core.specs.Edits.{timed_number}
use Rattle.dav_core.proofs.UnchangedLemmas.{put_same, put_other, equal_keys, other_keys}
use Rattle.dav_disk.specs.Files.{IsStored, AreStored}
use Rattle.dav_disk.proofs.Trees.{Maps, mapped_tree}
use Rattle.dav_disk.proofs.Changed.{Good, set_maps}
use Rattle.dav_core.proofs.TimesLemmas.{not_after_itself}
use Rattle.dav_disk.proofs.GivenStay.{IsTick, ticked, given_still, Bounded, bounded_of, given_of, put_given, timed_given}
use Rattle.dav_disk.proofs.Turned.{kept_of, good_of}
use Rattle.dav_disk.specs.Making.{filled_now}
use Rattle.dav_core.proofs.Elements.{in_map}
use Rattle.dav_disk.proofs.Times.{time_set, time_left}
use Rattle.dav_disk.proofs.PlainRows.{timed_plain}
use Rattle.std.proofs.lemmas.Bool.{eq-eqb, ne_eqb}
use Rattle.dav_core.proofs.ChangedRows.{set_number}

pub row_timed : (number : ℕ) (t : FileTime) (r : Row) → r.number ≡ number → record r { time = t } ≡ timed_number number t r
row_timed number t r e = time_set (r.number == number) t r (eq-eqb r.number number e)

pub row_left : (number : ℕ) (t : FileTime) (r : Row) → r.number ≢ number → r ≡ timed_number number t r
row_left number t r e = sym (time_left (r.number == number) t r (ne_eqb r.number number e))

timed_maps : (rows : List Row) (n : ℕ) (t : FileTime) → is_tree rows ≡ true → Maps rows (timed_number n t)
timed_maps rows n t tree = set_maps rows (λ r. r.number == n) t tree

filled_stored : (files : ℕ → Option Stored) (b : Bool) (number : ℕ) (r : Row) (bytes : List ℕ) (t : FileTime) → (r.number == number) ≡ b → IsStored files r
    → IsStored (put number (Some (record { bytes = bytes; time = t })) files) (cond b (record r { time = t }) r)
filled_stored files true number r bytes t e s file =
    ap (λ n. option_map (λ s. s.time) (put number (Some (record { bytes = bytes; time = t })) files n)) (equal_keys r.number number e)
    ∙ ap (option_map (λ s. s.time)) (put_same number (Some (record { bytes = bytes; time = t })) files)
filled_stored files false number r bytes t e s file =
    ap (option_map (λ s. s.time)) (put_other number r.number (Some (record { bytes = bytes; time = t })) files (other_keys r.number number e)) ∙ s file

filled_good : (w : World) (number : ℕ) (bytes : List ℕ) (t : FileTime) → Good w → Good (filled_now number bytes t w)
filled_good w number bytes t g = record {
  tree = mapped_tree w.tree (timed_number number t) g.tree (timed_maps w.tree number t g.tree);
  stored = λ y i.
      (let (r, at, e) = in_map (timed_number number t) w.tree y i in
      rw e (filled_stored w.files (r.number == number) number r bytes t refl (g.stored r at)));
  numbers = λ y i.
      (let (r, at, e) = in_map (timed_number number t) w.tree y i in
      rw (e, set_number (r.number == number) t r) (g.numbers r at));
}

filled_bounded : (w : World) (number : ℕ) (bytes : List ℕ) (t : FileTime) → Bounded w → IsTick w.latest t → number ≤ w.greatest → Bounded (filled_now number bytes t w)
filled_bounded w number bytes t g tick le = record {
  rows = λ y i.
      (let (r, at, e) = in_map (timed_number number t) w.tree y i in
      rw e (timed_given (r.number == number) w.greatest w.latest t r tick (g.rows r at)));
  files = λ k f e. put_given (k == number) w.greatest t number k _ f (w.files k) refl (record { within = le; nanos = tick.nanos; past = not_after_itself t })
      (λ e. given_still w.greatest w.greatest w.latest t k f.time (omega arith) tick.later (g.files k f e)) e;
  opens = g.opens;
  nanos = tick.nanos;
}

pub plain_numbered : (number : ℕ) (t : FileTime) (rows : List Row) → ArePlain rows → ArePlain (map (timed_number number t) rows)
plain_numbered number t rows all =
    All-map IsPlain (timed_number number t) rows (All-weaker IsPlain (λ r. IsPlain (timed_number number t r)) (λ r plain. timed_plain (r.number == number) t r plain) rows all)

-- what holds of a disk's world
pub record Holding (w : World) : Type 0 where
  pub tree : is_tree w.tree ≡ true
  pub plain : ArePlain w.tree
  pub stored : AreStored w.tree w.files
  pub given : AreGiven w.tree w.files w.opens w.greatest w.latest

pub filled_holding : (w : World) (number : ℕ) (bytes : List ℕ) (t : FileTime) → Holding w → tick w.latest ≡ Some t → number ≤ w.greatest → Holding (filled_now number bytes t w)
filled_holding w number bytes t h e le =
    let kept = kept_of (filled_now number bytes t w) (filled_now number bytes t w) refl (filled_good w number bytes t (good_of w h.tree h.stored h.given)) in
    record {
      tree = kept.tree;
      plain = plain_numbered number t w.tree h.plain;
      stored = kept.stored;
      given = given_of (filled_now number bytes t w) (filled_bounded w number bytes t (bounded_of w h.given) (ticked w.latest t h.given.nanos e) le);
    }

-- the same of rows and files that are those of a world
pub held_by : (v : World) (rows : List Row) (files : ℕ → Option Stored) → rows ≡ v.tree → files ≡ v.files → Holding v → Holding (record v { tree = rows; files = files })
held_by v rows files e f h =
    subst (λ (r : List Row). Holding (record v { tree = r; files = files })) (sym e) (subst (λ (g : ℕ → Option Stored). Holding (record v { files = g })) (sym f) h)

-- ---- what a call answers that fills a file
