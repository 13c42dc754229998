-- Over a store that refuses few things a call is refused with a failure only where its disk met a fault.
use Rattle.std.proofs.Common.{◌≤◌, Some, Ok, Err, refl, arith}
use Rattle.dav_io.specs.Counts.{Rose}
use Rattle.dav_store.specs.declared.entry.ReadDirMeta.TheVariants.{DataSymlink}
use Rattle.dav_store.specs.Leads as list
use Rattle.dav_store.specs.View.{View, Listings}
use Rattle.dav_get.proofs.HeardIsRight.{rose_through}
use Rattle.dav_methods.specs.Answers.{RefusesUsually}
use Rattle.dav_walks.specs.Follows as on
use Rattle.dav_walks.specs.Pouring.{Writes}
use Rattle.dav_config.specs.Writing as one
use Rattle.dav_config.specs.Writing.{RefusedOnWay, RefusesOne}

module _ {S C F L E : Type 0} (view : View S C F) (lists : Listings S C L E) (writes : Writes F) (c : C) (usual : RefusesUsually view lists writes c) where
  -- no call of a listing forgets a fault, nor another call
  listed_counts : (b : S) (first : L) (t : S) (l : L) → list.ListedOn view lists b first t l → (view.state b).faults ≤ (view.state t).faults
  listed_counts b first t l list.begun = omega arith
  listed_counts b first t l (list.goes_on m n k j r before call) = let front = listed_counts b first m k before in let last = usual.goes_counts m n k j r call in omega arith
  listed_counts b first t l (list.says m n o k j e r before gives says lends keeps) =
      let front = listed_counts b first m k before in let given = usual.goes_counts m n k j (Ok (Some e)) gives in let last = usual.says_counts n o e r says in omega arith

  reached_counts : (s t : S) → on.Reached view lists writes c s t → (view.state s).faults ≤ (view.state t).faults
  reached_counts s t on.here = omega arith
  reached_counts s t (on.looks m n path r before call) = let first = reached_counts s m before in let last = (usual.looks m n path r call).counts in omega arith
  reached_counts s t (on.looks_at_link m n path r before call) = let first = reached_counts s m before in let last = (usual.looks_at_link m n path r call).counts in omega arith
  reached_counts s t (on.opens m n path how r before call) = let first = reached_counts s m before in let last = (usual.opens m n path how r call).counts in omega arith
  reached_counts s t (on.writes_file m n f g bytes r before call) =
      let first = reached_counts s m before in let last = (usual.writes_file m n f g bytes r call).counts in omega arith
  reached_counts s t (on.ends_file m n f before call) = let first = reached_counts s m before in let last = call.done.counts in omega arith
  reached_counts s t (on.makes_dir m n path r before call) = let first = reached_counts s m before in let last = (usual.makes_dir m n path r call).counts in omega arith
  reached_counts s t (on.removes_dir m n path r before call) = let first = reached_counts s m before in let last = (usual.removes_dir m n path r call).counts in omega arith
  reached_counts s t (on.removes_file m n path r before call) = let first = reached_counts s m before in let last = (usual.removes_file m n path r call).counts in omega arith
  reached_counts s t (on.renames m n from to r before call) = let first = reached_counts s m before in let last = (usual.renames m n from to r call).counts in omega arith
  reached_counts s t (on.copies m n from to r before call) = let first = reached_counts s m before in let last = (usual.copies m n from to r call).counts in omega arith
  reached_counts s t (on.unlisted m n path e before call) =
      let first = reached_counts s m before in let last = (usual.begins m n path DataSymlink (Err e) call).counts in omega arith
  reached_counts s t (on.listed m n path before through) =
      let first = reached_counts s m before in
      let begun = (usual.begins m through.begin path DataSymlink (Ok through.listing) through.begins).counts in
      let gone_on = listed_counts through.begin through.listing through.after through.over through.on in
      let last = usual.ends through.after n through.over through.ended in omega arith

  one_rose : (m n : S) → RefusesOne view lists writes c m n → Rose (view.state m).faults (view.state n).faults
  one_rose m n (one.looks path call) = (usual.looks m n path _ call).refused.1 refl
  one_rose m n (one.looks_at_link path call) = (usual.looks_at_link m n path _ call).refused.1 refl
  one_rose m n (one.opens path how call) = (usual.opens m n path how _ call).refused.1 refl
  one_rose m n (one.writes_file f g bytes call) = (usual.writes_file m n f g bytes _ call).refused.1 refl
  one_rose m n (one.makes_dir path call) = (usual.makes_dir m n path _ call).refused.1 refl
  one_rose m n (one.removes_dir path call) = (usual.removes_dir m n path _ call).refused.1 refl
  one_rose m n (one.removes_file path call) = (usual.removes_file m n path _ call).refused.1 refl
  one_rose m n (one.renames from to call) = (usual.renames m n from to _ call).refused.1 refl
  one_rose m n (one.copies from to call) = (usual.copies m n from to _ call).refused.1 refl
  one_rose m n (one.begins path how call) = (usual.begins m n path how _ call).refused.1 refl
  one_rose m n (one.goes_on path how first l k b s o answers begins walk call ended) =
      rose_through _ _ _ _ (omega arith) ((usual.goes_on m b s o path how first l k answers _ begins walk call).refused.1 refl) (usual.ends o n k ended)
  one_rose m n (one.says path how first l k b s o p answers e begins walk gives call ended) =
      rose_through _ _ _ _ (omega arith) ((usual.says m b s o p path how first l k answers e _ begins walk gives call).refused.1 refl) (usual.ends p n k ended)

  pub way_rose : (s t : S) → RefusedOnWay view lists writes c s t → Rose (view.state s).faults (view.state t).faults
  way_rose s t way =
      rose_through _ _ _ _ (reached_counts s way.before way.came) (one_rose way.before way.after way.fails) (reached_counts way.after t way.ends)
