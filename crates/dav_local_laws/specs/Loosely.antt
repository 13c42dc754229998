-- What the calls of a store that change what stands make of the told world in every run, also where names of a directory
-- fold alike: what the tree allows at a place where a loose walk of the path may end. Where a link stands on the way
-- there nothing is said.
use Rattle.std.specs.Prelude.{◌≡◌, ◌||◌, false, Some, Result}
use Rattle.dav_core.specs.declared.error.FsError.{FsError}
use Rattle.dav_core.specs.Allowed.{copying, making_dir, taking_dir, taking_file}
use Rattle.dav_core.specs.DavPath.{WebPath}
use Rattle.dav_core.specs.Path.{Names}
use Rattle.dav_core.specs.Tree.{is_linked}
use Rattle.dav_core.specs.World.{World}
use Rattle.dav_store.specs.View.{Listings, View}
use Rattle.dav_model.specs.Finding.{EndsLoosely, has_slash, is_forbidden}
use Rattle.dav_model.specs.Plans.{put_options}
use Rattle.dav_model.specs.Rules.{Rules}
use Rattle.dav_walks.specs.Follows.{Calls, MovesBy, OpensBy, Reached, Told, UnlessShut}
use Rattle.dav_walks.specs.Pouring.{Writes}

-- A place where a loose walk of the path ends, and this of it, if no link stands on the way there.
pub record AtSome (rules : Rules) (v : World) (path : WebPath) (P : Names → Type 0) : Type 0 where
  pub there : Names
  pub loosely : EndsLoosely rules.alone rules.folds v.tree path.names there
  pub so : is_linked v.tree there ≡ false → P there

-- the rules by which each path is found at this place
abbrev pub finding_at : Names → Rules → Rules
finding_at there rules = record rules { alone = Some there }

module _ {S C F L E : Type 0} (view : View S C F) (lists : Listings S C L E) (writes : Writes F) (c : C) where
  -- From here on each call that changes what stands does what the tree allows at such a place, or it is refused as the
  -- tree calls for it there, or it was spoiled. Nothing else is touched: an edit is of the place that is found.
  pub record FollowsLoosely (rules : Rules) (s : S) : Type 0 where
    pub makes_dir : (m n : S) (path : WebPath) (r : Result Unit FsError) → Reached view lists writes c s m
        → view.makes_dir m c path r n
        → Told view lists writes c m n (λ v w. UnlessShut view lists writes c (is_forbidden rules path) r v w
        (AtSome rules v path (λ there. Calls view lists writes c (making_dir v.tree there) m r n v w)))
    pub removes_dir : (m n : S) (path : WebPath) (r : Result Unit FsError) → Reached view lists writes c s m
        → view.removes_dir m c path r n
        → Told view lists writes c m n (λ v w. AtSome rules v path
        (λ there. Calls view lists writes c (taking_dir v.tree there) m r n v w))
    pub removes_file : (m n : S) (path : WebPath) (r : Result Unit FsError) → Reached view lists writes c s m
        → view.removes_file m c path r n
        → Told view lists writes c m n (λ v w. UnlessShut view lists writes c
        (is_forbidden rules path || has_slash rules.alone path) r v w
        (AtSome rules v path (λ there. Calls view lists writes c (taking_file v.tree there) m r n v w)))
    -- (where a directory takes the place of a file the file may go first)
    pub renames : (m n : S) (from to : WebPath) (r : Result Unit FsError) → Reached view lists writes c s m
        → view.renames m c from to r n
        → Told view lists writes c m n (λ v w. UnlessShut view lists writes c
        (is_forbidden rules from || is_forbidden rules to) r v w
        (AtSome rules v from (λ one. AtSome rules v to (λ other. MovesBy view lists writes c one other m r n v w))))
    pub copies : (m n : S) (from to : WebPath) (r : Result Unit FsError) → Reached view lists writes c s m
        → view.copies m c from to r n
        → Told view lists writes c m n (λ v w. UnlessShut view lists writes c
        (is_forbidden rules from || is_forbidden rules to) r v w
        (AtSome rules v from (λ one. AtSome rules v to (λ other. Calls view lists writes c (copying v one other) m r n v
        w))))
    -- What is opened is written by its handle, as `Follows` has it for all runs.
    pub opens : (m n : S) (path : WebPath) (r : Result F FsError) → Reached view lists writes c s m
        → view.opens m c path put_options r n
        → Told view lists writes c m n (λ v w. UnlessShut view lists writes c
        (is_forbidden rules path || has_slash rules.alone path) r v w
        (AtSome rules v path (λ there. OpensBy view lists writes c (finding_at there rules) path m r n v w)))
