-- A batch of changes keeps what holds of a world.
use Rattle.std.proofs.Common.{◌≡◌, ◌<◌, ◌∷◌, ◌==◌, [], ℕ, List, Option, length, drop, get_or, Bool, true, false, arith, refl, sym, ap, ◌∙◌, drop-cons}
use Rattle.std.proofs.lemmas.Bool.Decides.{nat_tests}
use Rattle.std.specs.List.{remove}
use Rattle.std.proofs.lemmas.List.Elements.{All-from_recursion, recursion_from_All}
use Rattle.dav_core.specs.declared.tree.Row.{Row}
use Rattle.dav_core.specs.declared.change.Change.{Change}
use Rattle.dav_core.specs.Tree.{is_tree}
use Rattle.dav_core.specs.World.{World, AreGiven}
use Rattle.dav_core.specs.Disk.{Live}
use Rattle.dav_core.specs.Changes.{changed, all_changed, turned, turned_by}
use Rattle.dav_disk.specs.Files.{IsStored, AreStored}
use Rattle.dav_disk.specs.Calls.{Known}
use Rattle.dav_disk.proofs.Trees.{each_at, each_in}
use Rattle.dav_disk.proofs.Changed.{Good}
use Rattle.dav_disk.proofs.Moved.{changed_good}
use Rattle.dav_disk.proofs.GivenStay.{bounded_of}

pub good_all : (w : World) (changes : List Change) → Good w → Good (all_changed w changes)
good_all w [] g = g
good_all w (change ∷ changes) g = good_all (changed w change) changes (changed_good w change g)

pub good_of : (w : World) → is_tree w.tree ≡ true → AreStored w.tree w.files → AreGiven w.tree w.files w.opens w.greatest w.latest → Good w
good_of w tree stored given = record {
  tree = tree;
  stored = λ r i. each_at (IsStored w.files) w.tree r (recursion_from_All (IsStored w.files) w.tree stored) i;
  numbers = λ r i. ((bounded_of w given).rows r i).within;
}

pub record Kept (w : World) : Type 0 where
  pub tree : is_tree w.tree ≡ true
  pub stored : AreStored w.tree w.files

pub kept_of : (v w : World) → v ≡ w → Good w → Kept v
kept_of v w e g = rw e (record {
  tree = g.tree;
  stored = All-from_recursion (IsStored w.files) w.tree (each_in (IsStored w.files) w.tree g.stored);
})

turned_by_good : (w : World) (script : List (List Change)) → Good w → Good (turned_by w script)
turned_by_good w [] g = g
turned_by_good w (batch ∷ batches) g = good_all (record w { script = batches }) batch (record { tree = g.tree; stored = g.stored; numbers = g.numbers })

pub turned_good : (w : World) → Good w → Good (turned w)
turned_good w g = turned_by_good w w.script g

none_first : {X : Type 0} (xs : List X) → remove xs 0 ≡ drop 1 xs
none_first [] = refl
none_first (x ∷ xs) = refl

pub some_batch : (b : Bool) (n : ℕ) → b ≡ (n == 0) → b ≡ false → 0 < n
some_batch b n e f = grind (arith, nat_tests)

-- the first batch of a script is made
pub turn_made : (old v drawn : World) (rows : List Row) (rest : List (List Change)) (given batch : List Change) → 0 < length old.script → batch ≡ get_or old.script 0 batch → given ≡ batch
    → rest ≡ remove old.script 0 → rows ≡ old.tree → drawn ≡ record old { tree = rows; script = rest } → v ≡ all_changed drawn given → v ≡ turned old
turn_made old v drawn rows rest given batch some at same left tree before made =
    made
    ∙ ap (λ m. all_changed m given) (before ∙ ap (λ rows. record old { tree = rows; script = rest }) tree ∙ ap (λ s. record old { script = s }) (left ∙ none_first old.script))
    ∙ ap (all_changed (record old { script = drop 1 old.script })) (same ∙ at)
    ∙ sym (ap (turned_by old) (drop-cons old.script 0 batch some))

abbrev pub knows : World → (ℕ → Option Live) → Known
knows w live = record { world = w; live = live }
