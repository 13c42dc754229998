-- What a tree refuses a call with stands in the tree: it is no fault, and no want of memory.
use Rattle.std.proofs.Common.{◌≡◌, ◌&&◌, ◌||◌, ◌++◌, ◌∷◌, [], ℕ, List, Bool, true, false, cond, Option, None, Some, Result, Ok, Err, inl, inr, refl, sym, ap, ◌∙◌}
use Rattle.dav_core.specs.declared.tree.Row.{Row}
use Rattle.dav_core.specs.declared.tree.Kind.{Kind}
use Rattle.dav_core.specs.declared.tree.Kind.TheVariants.{Dir, File, Link}
use Rattle.dav_core.specs.declared.handle.OpenOptions.{OpenOptions}
use Rattle.dav_core.specs.declared.handle.DiskError.{DiskError}
use Rattle.dav_core.specs.declared.handle.DiskError.TheVariants.{NotFound, Exists, NotDir, IsDir, NotEmpty, Failed, NoMemory}
use Rattle.dav_core.specs.Path.{Names, same_names, is_front}
use Rattle.dav_core.specs.Tree.{look, row_at, is_dir, is_linked, IsTreeRefusal}
use Rattle.dav_core.specs.World.{World, AreGiven}
use Rattle.dav_core.specs.Changes.{is_leaf}
use Rattle.dav_core.specs.Edits.{Edit}
use Rattle.dav_core.specs.Allowed.{Allowed, place, place_from, through, through_kind, found_then, making_at, making_dir, may_go, taking_dir_row, taking_dir, taking_file_row, taking_file, moving_over, moving_to, moving, copying_over, copying_to, copying, opening_row, opening_at, opening, is_root}
use Rattle.dav_core.specs.Writing.{DoesIn, MayRefuseMake, MayRefuseTakeDir, MayRefuseTakeFile, MayRefuseMove, MayRefuseCopy}
use Rattle.dav_core.proofs.LookLemmas.{look_err}
use Rattle.dav_disk.specs.Calls.{Known, state_of}
use Rattle.dav_disk.specs.Making.{MakesAt, Performs, allows}
use Rattle.dav_disk.specs.declared.path_call.PathCall.{PathCall}
use Rattle.dav_disk.specs.declared.path_call.PathCall.TheVariants.{CreateDir, RemoveDir, RemoveFile, Rename, Copy}
use Rattle.dav_disk.proofs.Makes.{MayRefuse, Noted, does, does_in, fails_done, fails_in}

kind_err : (k : Kind) (found : Result (Option Row) DiskError) (e : DiskError) → (found ≡ Err e → IsTreeRefusal e) → through_kind k found ≡ Err e → IsTreeRefusal e
kind_err Dir found e h f = h f
kind_err File found e h f = inr (let g : NotDir ≡ e = cc in sym g)
kind_err Link found e h f = inr (let g : NotDir ≡ e = cc in sym g)

row_err : (o : Option Row) (found : Result (Option Row) DiskError) (e : DiskError) → (found ≡ Err e → IsTreeRefusal e) → through o found ≡ Err e → IsTreeRefusal e
row_err None found e h f = inl (let g : NotFound ≡ e = cc in sym g)
row_err (Some r) found e h f = kind_err r.kind found e h f

place_from_err : (tree : List Row) (at names : Names) (e : DiskError) → place_from tree at names ≡ Err e → IsTreeRefusal e
place_from_err tree at [] e h = cc
place_from_err tree at (name ∷ names) e h = row_err (row_at tree at) _ e (place_from_err tree (at ++ name ∷ []) names e) h

pub place_err : (tree : List Row) (path : Names) (e : DiskError) → place tree path ≡ Err e → IsTreeRefusal e
place_err tree path e h = place_from_err tree [] path e h

-- ---- a property of each refusal

by_walk : (P : DiskError → Type 0) → P NotFound → P NotDir → (e : DiskError) → IsTreeRefusal e → P e
by_walk P nothing other e (inl h) = rw h nothing
by_walk P nothing other e (inr h) = rw h other

abbrev EachErr : (DiskError → Type 0) → Allowed → Type 0
EachErr P allowed = (e : DiskError) → allowed ≡ Err e → P e

err_is : (P : DiskError → Type 0) (x : DiskError) → P x → EachErr P (Err x)
err_is P x p e h = let same : x ≡ e = cc in rw (← same) p

either_err : (P : DiskError → Type 0) (b : Bool) (x y : Allowed) → EachErr P x → EachErr P y → EachErr P (cond b x y)
either_err P true x y p q = p
either_err P false x y p q = q

making_err : (P : DiskError → Type 0) (found : Result (Option Row) DiskError) (path : Names) → ((e : DiskError) → found ≡ Err e → P e) → P Exists → EachErr P (making_at found path)
making_err P (Err x) path h exists e f = h e (let same : x ≡ e = cc in ap Err same)
making_err P (Ok (Some row)) path h exists e f = err_is P Exists exists e f
making_err P (Ok None) path h exists e f = cc

found_err : (P : DiskError → Type 0) (judge : Row → Allowed) (found : Result Row DiskError) → ((e : DiskError) → found ≡ Err e → P e) → ((row : Row) → EachErr P (judge row)) → EachErr P (found_then judge found)
found_err P judge (Ok row) h each e f = each row e f
found_err P judge (Err x) h each e f = h e (let same : x ≡ e = cc in ap Err same)

ok_err : (P : DiskError → Type 0) (allowed : Allowed) (x : Option Edit) → allowed ≡ Ok x → EachErr P allowed
ok_err P allowed x is e f = absurd (let clash : Ok x ≡ Err e = sym is ∙ f in cc)

taking_dir_err : (P : DiskError → Type 0) (tree : List Row) (path : Names) → P NotFound → P NotDir → P NotEmpty → EachErr P (taking_dir tree path)
taking_dir_err P tree path nothing other members = found_err P (taking_dir_row tree) (look tree path) (λ e h. by_walk P nothing other e (look_err tree path e h))
    (λ row. either_err P (is_dir row.kind) _ _ (either_err P (may_go tree row) _ _ (ok_err P _ _ refl) (err_is P NotEmpty members)) (err_is P NotDir other))

taking_file_err : (P : DiskError → Type 0) (tree : List Row) (path : Names) → P NotFound → P NotDir → P IsDir → EachErr P (taking_file tree path)
taking_file_err P tree path nothing other dir = found_err P taking_file_row (look tree path) (λ e h. by_walk P nothing other e (look_err tree path e h))
    (λ row. either_err P (is_dir row.kind) _ _ (err_is P IsDir dir) (ok_err P _ _ refl))

moving_over_err : (P : DiskError → Type 0) (tree : List Row) (row : Row) (to : Names) (there : Option Row) → P NotDir → P NotEmpty → P IsDir → EachErr P (moving_over tree row to there)
moving_over_err P tree row to None other members dir = ok_err P _ _ refl
moving_over_err P tree row to (Some there) other members dir =
    either_err P (is_dir row.kind) _ _
    (either_err P (is_dir there.kind) _ _ (either_err P (is_leaf there.path tree) _ _ (ok_err P _ _ refl) (err_is P NotEmpty members)) (err_is P NotDir other))
    (either_err P (is_dir there.kind) _ _ (err_is P IsDir dir) (ok_err P _ _ refl))

moving_to_err : (P : DiskError → Type 0) (tree : List Row) (row : Row) (to : Names) (found : Result (Option Row) DiskError) → ((e : DiskError) → found ≡ Err e → P e) → P NotDir → P NotEmpty → P IsDir
    → EachErr P (moving_to tree row to found)
moving_to_err P tree row to (Err x) h other members dir e f = h e (let same : x ≡ e = cc in ap Err same)
moving_to_err P tree row to (Ok there) h other members dir e f =
    either_err P (is_root row.path || is_root to) _ _ (err_is P NotEmpty members)
    (either_err P (same_names row.path to) _ _ (ok_err P _ _ refl)
    (either_err P (is_front row.path to) _ _ (err_is P NotEmpty members) (moving_over_err P tree row to there other members dir))) e f

moving_err : (P : DiskError → Type 0) (tree : List Row) (from to : Names) → P NotFound → P NotDir → P NotEmpty → P IsDir → EachErr P (moving tree from to)
moving_err P tree from to nothing other members dir = found_err P (λ row. moving_to tree row to (place tree to)) (look tree from) (λ e h. by_walk P nothing other e (look_err tree from e h))
    (λ row. moving_to_err P tree row to (place tree to) (λ e h. by_walk P nothing other e (place_err tree to e h)) other members dir)

copying_over_err : (P : DiskError → Type 0) (w : World) (row : Row) (to : Names) (there : Option Row) → P IsDir → EachErr P (copying_over w row to there)
copying_over_err P w row to None dir = ok_err P _ _ refl
copying_over_err P w row to (Some there) dir = either_err P (is_dir there.kind) _ _ (err_is P IsDir dir) (either_err P (same_names row.path to) _ _ (ok_err P _ _ refl) (ok_err P _ _ refl))

copying_to_err : (P : DiskError → Type 0) (w : World) (row : Row) (to : Names) (found : Result (Option Row) DiskError) → ((e : DiskError) → found ≡ Err e → P e) → P IsDir → EachErr P (copying_to w row to found)
copying_to_err P w row to (Err x) h dir e f = h e (let same : x ≡ e = cc in ap Err same)
copying_to_err P w row to (Ok there) h dir e f = either_err P (is_dir row.kind) _ _ (err_is P IsDir dir) (copying_over_err P w row to there dir) e f

copying_err : (P : DiskError → Type 0) (w : World) (from to : Names) → P NotFound → P NotDir → P IsDir → EachErr P (copying w from to)
copying_err P w from to nothing other dir = found_err P (λ row. copying_to w row to (place w.tree to)) (look w.tree from) (λ e h. by_walk P nothing other e (look_err w.tree from e h))
    (λ row. copying_to_err P w row to (place w.tree to) (λ e h. by_walk P nothing other e (place_err w.tree to e h)) dir)

opening_row_err : (P : DiskError → Type 0) (how : OpenOptions) (row : Row) → P Exists → P IsDir → EachErr P (opening_row how row)
opening_row_err P how row exists dir =
    either_err P how.create_new _ _ (err_is P Exists exists) (either_err P (is_dir row.kind && (how.write || how.append)) _ _ (err_is P IsDir dir) (ok_err P _ _ refl))

opening_at_err : (P : DiskError → Type 0) (how : OpenOptions) (path : Names) (found : Result (Option Row) DiskError) → ((e : DiskError) → found ≡ Err e → P e) → P NotFound → P Exists → P IsDir
    → EachErr P (opening_at how path found)
opening_at_err P how path (Err x) h nothing exists dir e f = h e (let same : x ≡ e = cc in ap Err same)
opening_at_err P how path (Ok (Some row)) h nothing exists dir e f = opening_row_err P how row exists dir e f
opening_at_err P how path (Ok None) h nothing exists dir e f = either_err P (how.create || how.create_new) _ _ (ok_err P _ _ refl) (err_is P NotFound nothing) e f

pub opening_err : (P : DiskError → Type 0) (tree : List Row) (path : Names) (how : OpenOptions) → P NotFound → P NotDir → P Exists → P IsDir → EachErr P (opening tree path how)
opening_err P tree path how nothing other exists dir = opening_at_err P how path (place tree path) (λ e h. by_walk P nothing other e (place_err tree path e h)) nothing exists dir

-- ---- the refusals of each call

pub make_refuses : (tree : List Row) (path : Names) → MayRefuse MayRefuseMake (making_dir tree path)
make_refuses tree path = record { failed = tt; memory = tt; tree = making_err MayRefuseMake (place tree path) path (λ e h. by_walk MayRefuseMake tt tt e (place_err tree path e h)) tt }

pub take_dir_refuses : (tree : List Row) (path : Names) → MayRefuse MayRefuseTakeDir (taking_dir tree path)
take_dir_refuses tree path = record { failed = tt; memory = tt; tree = taking_dir_err MayRefuseTakeDir tree path tt tt tt }

pub take_file_refuses : (tree : List Row) (path : Names) → MayRefuse MayRefuseTakeFile (taking_file tree path)
take_file_refuses tree path = record { failed = tt; memory = tt; tree = taking_file_err MayRefuseTakeFile tree path tt tt tt }

pub move_refuses : (tree : List Row) (from to : Names) → MayRefuse MayRefuseMove (moving tree from to)
move_refuses tree from to = record { failed = tt; memory = tt; tree = moving_err MayRefuseMove tree from to tt tt tt tt }

pub copy_refuses : (w : World) (from to : Names) → MayRefuse MayRefuseCopy (copying w from to)
copy_refuses w from to = record { failed = tt; memory = tt; tree = copying_err MayRefuseCopy w from to tt tt tt }

-- ---- the calls that change what stands at a path

-- one that does what is allowed is what the trait of disks asks
pub performed : (call : PathCall) (k n : Known) (f a : ℕ) (x : Bool) (g b : ℕ) (y : Bool) (result : Result Unit DiskError) → Noted result f a x g b y → AreGiven k.world.tree k.world.files k.world.opens k.world.greatest k.world.latest
    → MakesAt (allows call k.world) k result n → Performs call (state_of k f a x) result (state_of n g b y)
performed (CreateDir path) k n f a x g b y result noted given makes =
    does MayRefuseMake (λ v w. is_linked v.tree path.now ≡ false → DoesIn false (making_dir v.tree path.now) result v w) (making_dir k.world.tree path.now) k n f a x g b y result noted (make_refuses k.world.tree path.now) makes
    (λ linked. does_in false (making_dir k.world.tree path.now) k n result given makes)
performed (RemoveDir path) k n f a x g b y result noted given makes =
    does MayRefuseTakeDir (λ v w. is_linked v.tree path.now ≡ false → DoesIn false (taking_dir v.tree path.now) result v w) (taking_dir k.world.tree path.now) k n f a x g b y result noted (take_dir_refuses k.world.tree path.now) makes
    (λ linked. does_in false (taking_dir k.world.tree path.now) k n result given makes)
performed (RemoveFile path) k n f a x g b y result noted given makes =
    does MayRefuseTakeFile (λ v w. is_linked v.tree path.now ≡ false → DoesIn false (taking_file v.tree path.now) result v w) (taking_file k.world.tree path.now) k n f a x g b y result noted (take_file_refuses k.world.tree path.now) makes
    (λ linked. does_in false (taking_file k.world.tree path.now) k n result given makes)
performed (Rename from to) k n f a x g b y result noted given makes =
    does MayRefuseMove (λ v w. is_linked v.tree from.now ≡ false → is_linked v.tree to.now ≡ false → DoesIn true (moving v.tree from.now to.now) result v w) (moving k.world.tree from.now to.now) k n f a x g b y result noted (move_refuses k.world.tree from.now to.now) makes
    (λ linked linked_to. does_in true (moving k.world.tree from.now to.now) k n result given makes)
performed (Copy from to) k n f a x g b y result noted given makes =
    does MayRefuseCopy (λ v w. is_linked v.tree from.now ≡ false → is_linked v.tree to.now ≡ false → DoesIn true (copying v from.now to.now) result v w) (copying k.world from.now to.now) k n f a x g b y result noted (copy_refuses k.world from.now to.now) makes
    (λ linked linked_to. does_in true (copying k.world from.now to.now) k n result given makes)

-- and so is one that fails by the schedule
pub failed_by : (call : PathCall) (k : Known) (f a : ℕ) (x : Bool) (g b : ℕ) (y : Bool) → Noted {T = Unit} (Err Failed) f a x g b y → Performs call (state_of k f a x) (Err Failed) (state_of k g b y)
failed_by (CreateDir path) k f a x g b y noted =
    fails_done MayRefuseMake (λ v w. is_linked v.tree path.now ≡ false → DoesIn false (making_dir v.tree path.now) (Err Failed) v w) k f a x g b y noted tt (λ linked. fails_in false (making_dir k.world.tree path.now) k.world)
failed_by (RemoveDir path) k f a x g b y noted =
    fails_done MayRefuseTakeDir (λ v w. is_linked v.tree path.now ≡ false → DoesIn false (taking_dir v.tree path.now) (Err Failed) v w) k f a x g b y noted tt (λ linked. fails_in false (taking_dir k.world.tree path.now) k.world)
failed_by (RemoveFile path) k f a x g b y noted =
    fails_done MayRefuseTakeFile (λ v w. is_linked v.tree path.now ≡ false → DoesIn false (taking_file v.tree path.now) (Err Failed) v w) k f a x g b y noted tt (λ linked. fails_in false (taking_file k.world.tree path.now) k.world)
failed_by (Rename from to) k f a x g b y noted =
    fails_done MayRefuseMove (λ v w. is_linked v.tree from.now ≡ false → is_linked v.tree to.now ≡ false → DoesIn true (moving v.tree from.now to.now) (Err Failed) v w) k f a x g b y noted tt
    (λ linked linked_to. fails_in true (moving k.world.tree from.now to.now) k.world)
failed_by (Copy from to) k f a x g b y noted =
    fails_done MayRefuseCopy (λ v w. is_linked v.tree from.now ≡ false → is_linked v.tree to.now ≡ false → DoesIn true (copying v from.now to.now) (Err Failed) v w) k f a x g b y noted tt
    (λ linked linked_to. fails_in true (copying k.world from.now to.now) k.world)

-- ---- no fault

-- a refusal that is neither a fault nor want of memory
abbrev pub Judged : DiskError → Type 0
Judged Failed = ⊥
Judged NoMemory = ⊥
Judged e = Unit {0}

pub making_judged : (tree : List Row) (path : Names) (e : DiskError) → making_dir tree path ≡ Err e → Judged e
making_judged tree path = making_err Judged (place tree path) path (λ e h. by_walk Judged tt tt e (place_err tree path e h)) tt

pub taking_dir_judged : (tree : List Row) (path : Names) (e : DiskError) → taking_dir tree path ≡ Err e → Judged e
taking_dir_judged tree path = taking_dir_err Judged tree path tt tt tt

pub taking_file_judged : (tree : List Row) (path : Names) (e : DiskError) → taking_file tree path ≡ Err e → Judged e
taking_file_judged tree path = taking_file_err Judged tree path tt tt tt

pub moving_judged : (tree : List Row) (from to : Names) (e : DiskError) → moving tree from to ≡ Err e → Judged e
moving_judged tree from to = moving_err Judged tree from to tt tt tt tt

pub copying_judged : (w : World) (from to : Names) (e : DiskError) → copying w from to ≡ Err e → Judged e
copying_judged w from to = copying_err Judged w from to tt tt tt

pub opening_judged : (tree : List Row) (path : Names) (how : OpenOptions) (e : DiskError) → opening tree path how ≡ Err e → Judged e
opening_judged tree path how = opening_err Judged tree path how tt tt tt tt

-- what the tree refuses is refused so
pub refused_at : (allowed : Allowed) (k : Known) (e : DiskError) → Judged e → allowed ≡ Err e → MakesAt allowed k (Err e) k
refused_at allowed k NotFound j h = (refl, h)
refused_at allowed k Exists j h = (refl, h)
refused_at allowed k NotDir j h = (refl, h)
refused_at allowed k IsDir j h = (refl, h)
refused_at allowed k NotEmpty j h = (refl, h)
refused_at allowed k Failed j h = absurd j
refused_at allowed k NoMemory j h = absurd j
