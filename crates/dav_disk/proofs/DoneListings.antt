-- What a call of a listing does to what is known is what the trait of disks asks, with the counts beside it.
use Rattle.std.proofs.Common.{◌≡◌, ℕ, List, Bool, Option, None, Some, Result, Ok, Err, IsErrOf, IfOk, IfSome, length, true, inl, inr, refl, sym, ap, ◌∙◌, subst}
use Rattle.std.specs.Option.{option_map}
use Rattle.dav_core.specs.declared.tree.Row.{Row}
use Rattle.dav_core.specs.declared.tree.Kind.{Kind}
use Rattle.dav_core.specs.declared.tree.Kind.TheVariants.{Dir, File, Link}
use Rattle.dav_core.specs.declared.handle.Lister.{Lister}
use Rattle.dav_core.specs.declared.handle.DiskError.{DiskError}
use Rattle.dav_core.specs.declared.handle.DiskError.TheVariants.{NotFound, Exists, NotDir, IsDir, NotEmpty, Failed, NoMemory}
use Rattle.dav_core.specs.Path.{Names, is_plain}
use Rattle.dav_core.specs.Tree.{look, below_kind, IsTreeRefusal}
use Rattle.dav_core.specs.Listing.{Lists, ListsOn, EndsListing, MayRefuseList, listable}
use Rattle.dav_core.proofs.LookLemmas.{look_err}
use Rattle.dav_core.proofs.TablesLemmas.{put_map}
use Rattle.dav_core.proofs.UnchangedLemmas.{put_same}
use Rattle.dav_disk.specs.Listings.{AreSorted}
use Rattle.dav_disk.specs.Calls.{Known, state_of, lengths, with_names, RefusesBy, ListsAt, NextAt}
use Rattle.dav_disk.proofs.Done.{Counted, counted_ok, counted_err, no_fault, refused_by}

kind_refuses : (kind : Kind) (row : Row) (e : DiskError) → below_kind kind (Ok row) ≡ Err e → IsTreeRefusal e
kind_refuses Dir row e h = cc
kind_refuses File row e h = inr (let same : NotDir ≡ e = cc in sym same)
kind_refuses Link row e h = inr (let same : NotDir ≡ e = cc in sym same)

listable_refuses : (found : Result Row DiskError) (e : DiskError) → ((x : DiskError) → found ≡ Err x → IsTreeRefusal x) → listable found ≡ Err e → IsTreeRefusal e
listable_refuses (Ok row) e walk h = kind_refuses row.kind row e h
listable_refuses (Err x) e walk h = walk e h

-- a listing is refused by the tree as a walk is
list_err : (tree : List Row) (path : Names) (e : DiskError) → listable (look tree path) ≡ Err e → IsTreeRefusal e
list_err tree path e h = listable_refuses (look tree path) e (look_err tree path) h

by_tree : (e : DiskError) → IsTreeRefusal e → MayRefuseList e
by_tree e (inl h) = rw h tt
by_tree e (inr h) = rw h tt

may_list : (tree : List Row) (path : Names) (e : DiskError) → RefusesBy e (listable (look tree path)) → MayRefuseList e
may_list tree path NotFound h = tt
may_list tree path Exists h = by_tree Exists (list_err tree path Exists h)
may_list tree path NotDir h = tt
may_list tree path IsDir h = by_tree IsDir (list_err tree path IsDir h)
may_list tree path NotEmpty h = by_tree NotEmpty (list_err tree path NotEmpty h)
may_list tree path Failed h = tt
may_list tree path NoMemory h = tt

list_no_fault : (tree : List Row) (path : Names) (e : DiskError) → RefusesBy e (listable (look tree path)) → e ≡ Failed → ⊥
list_no_fault tree path NotFound h f = cc
list_no_fault tree path Exists h f = cc
list_no_fault tree path NotDir h f = cc
list_no_fault tree path IsDir h f = cc
list_no_fault tree path NotEmpty h f = cc
list_no_fault tree path Failed h f = no_fault Failed (list_err tree path Failed h) refl
list_no_fault tree path NoMemory h f = cc

pub list_done : (k n : Known) (f a : ℕ) (x : Bool) (g b : ℕ) (y : Bool) (path : Names) (result : Result Lister DiskError) → Counted f a x g b y → ListsAt k path result n
    → Lists (state_of k f a x) path result (state_of n g b y)
list_done k n f a x g b y path (Ok l) c (names, directory, order, free, e) = record {
  counted = counted_ok l k n f a x g b y c;
  only = tt;
  live = ap (λ (n : Known). n.live) e;
  listers = (ap (option_map length) free, (length names, order.few, ap (λ (n : Known). lengths n.world.listings) e ∙ put_map length l.0 (Some names) k.world.listings));
  told = (names, ap (λ (n : Known). n.world) e, λ linked. (directory, order.each));
}
list_done k n f a x g b y path (Err e) c (same, refuses) = record {
  counted = counted_err e k n f a x g b y (list_no_fault k.world.tree path e refuses) c;
  only = may_list k.world.tree path e refuses;
  live = ap (λ (n : Known). n.live) same;
  listers = ap (λ (n : Known). lengths n.world.listings) same;
  told = (ap (λ (n : Known). n.world) same, λ linked. refused_by e (listable (look k.world.tree path)) refuses);
}

pub lists_no_fault : (k n : Known) (path : Names) (result : Result Lister DiskError) → ListsAt k path result n → IsErrOf result Failed → ⊥
lists_no_fault k n path (Ok l) lists f = cc
lists_no_fault k n path (Err e) lists f = list_no_fault k.world.tree path e lists.1 (let same : e ≡ Failed = cc in same)

pub next_done : (k n : Known) (f a : ℕ) (x : Bool) (g b : ℕ) (y : Bool) (l : ℕ) (found : Option (List ℕ)) → Counted f a x g b y → NextAt k l found n → IfSome found (λ name. is_plain name ≡ true)
    → ListsOn (state_of k f a x) l (Ok found) (state_of n g b y)
next_done k n f a x g b y l None c (none, e) plain = record {
  counted = counted_ok None k n f a x g b y c;
  only = tt;
  plain = tt;
  live = ap (λ (n : Known). n.live) e;
  listers = ap (λ (n : Known). lengths n.world.listings) e;
  told = (none, ap (λ (n : Known). n.world) e);
}
next_done k n f a x g b y l (Some name) c (rest, at, e) plain = record {
  counted = counted_ok (Some name) k n f a x g b y c;
  only = tt;
  plain = plain;
  live = ap (λ (n : Known). n.live) e;
  listers = (length rest, ap (option_map length) at, ap (λ (n : Known). lengths n.world.listings) e ∙ put_map length l (Some rest) k.world.listings);
  told = (rest, at, ap (λ (n : Known). n.world) e);
}

pub end_done : (k n : Known) (f a : ℕ) (x y : Bool) (l : ℕ) → (x ≡ true → y ≡ true) → n ≡ with_names k l None → EndsListing (state_of k f a x) l (state_of n f a y)
end_done k n f a x y l whole e = record {
  counts = refl;
  asked = refl;
  whole = whole;
  live = ap (λ (n : Known). n.live) e;
  listers = ap (λ (n : Known). lengths n.world.listings) e ∙ put_map length l None k.world.listings;
  told = ap (λ (n : Known). n.world) e;
}

-- the names to come of a listing that was begun are in order
pub list_order : (k n : Known) (path : Names) (result : Result Lister DiskError) → ListsAt k path result n → IfOk result (λ l. IfSome (n.world.listings l.0) AreSorted)
list_order k n path (Ok l) (names, directory, order, free, e) =
    subst (λ (o : Option Names). IfSome o AreSorted) (sym (ap (λ (n : Known). n.world.listings l.0) e ∙ put_same l.0 (Some names) k.world.listings)) order.sorted
list_order k n path (Err e) lists = tt
