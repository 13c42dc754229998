-- No count of faults falls in the calls of a store that refuses few things.
use Rattle.std.proofs.Common.{◌≤◌, ℕ, Some, Ok, Err, arith}
use Rattle.dav_store.specs.declared.entry.ReadDirMeta.TheVariants.{DataSymlink}
use Rattle.dav_store.specs.Leads.{ListedOn, begun, goes_on, says}
use Rattle.dav_store.specs.View.{Listings, View}
use Rattle.dav_methods.specs.Answers.{RefusesUsually}
use Rattle.dav_walks.specs.Follows.{Reached, copies, ends_file, here, listed, looks, looks_at_link, makes_dir, opens, removes_dir, removes_file, renames, unlisted, writes_file}
use Rattle.dav_walks.specs.Pouring.{Writes}

further : (a b c : ℕ) → a ≤ b → b ≤ c → a ≤ c
further a b c p q = omega arith

module _ {S C F L E : Type 0} (view : View S C F) (lists : Listings S C L E) (writes : Writes F) (c : C) (usual : RefusesUsually view lists writes c) where
  abbrev count : S → ℕ
  count s = (view.state s).faults

  listed_counts : (b : S) (first : L) (n : S) (l : L) → ListedOn view lists b first n l → count b ≤ count n
  listed_counts b first n l begun = omega arith
  listed_counts b first n l (goes_on m k i j r before h) = further (count b) (count m) (count n) (listed_counts b first m i before) (usual.goes_counts m n i l r h)
  listed_counts b first n l (says m k o i j e r before gives h lent keeps) =
      further (count b) (count m) (count n) (listed_counts b first m i before) (further (count m) (count k) (count n) (usual.goes_counts m k i l (Ok (Some e)) gives) keeps.counts)

  pub reached_counts : (s n : S) → Reached view lists writes c s n → count s ≤ count n
  reached_counts s n here = omega arith
  reached_counts s n (looks m k path r before h) = further (count s) (count m) (count n) (reached_counts s m before) (usual.looks m n path r h).counts
  reached_counts s n (looks_at_link m k path r before h) = further (count s) (count m) (count n) (reached_counts s m before) (usual.looks_at_link m n path r h).counts
  reached_counts s n (opens m k path how r before h) = further (count s) (count m) (count n) (reached_counts s m before) (usual.opens m n path how r h).counts
  reached_counts s n (writes_file m k f g bytes r before h) = further (count s) (count m) (count n) (reached_counts s m before) (usual.writes_file m n f g bytes r h).counts
  reached_counts s n (ends_file m k f before h) = further (count s) (count m) (count n) (reached_counts s m before) (let same = h.done.counts in omega (arith, same))
  reached_counts s n (makes_dir m k path r before h) = further (count s) (count m) (count n) (reached_counts s m before) (usual.makes_dir m n path r h).counts
  reached_counts s n (removes_dir m k path r before h) = further (count s) (count m) (count n) (reached_counts s m before) (usual.removes_dir m n path r h).counts
  reached_counts s n (removes_file m k path r before h) = further (count s) (count m) (count n) (reached_counts s m before) (usual.removes_file m n path r h).counts
  reached_counts s n (renames m k from to r before h) = further (count s) (count m) (count n) (reached_counts s m before) (usual.renames m n from to r h).counts
  reached_counts s n (copies m k from to r before h) = further (count s) (count m) (count n) (reached_counts s m before) (usual.copies m n from to r h).counts
  reached_counts s n (unlisted m k path e before h) = further (count s) (count m) (count n) (reached_counts s m before) (usual.begins m n path DataSymlink (Err e) h).counts
  reached_counts s n (listed m k path before through) =
      further (count s) (count m) (count n) (reached_counts s m before)
      (further (count m) (count through.begin) (count n) (usual.begins m through.begin path DataSymlink (Ok through.listing) through.begins).counts
      (further (count through.begin) (count through.after) (count n) (listed_counts through.begin through.listing through.after through.over through.on) (usual.ends through.after n through.over through.ended)))
