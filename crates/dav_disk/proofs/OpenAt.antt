-- What an opening answers, step by step.
use Rattle.std.proofs.Common.{◌≡◌, ◌≤◌, ◌==◌, ◌+◌, [], ℕ, List, Bool, true, false, cond, not, Option, None, Some, Result, Ok, Err, inl, inr, refl, sym, ap, ◌∙◌}
use Rattle.std.specs.Option.{option_map, is_none, is_some}
use Rattle.std.specs.Str.{bytes_eq}
use mathlib.Core.Path.{fun_ext}
use Rattle.dav_core.specs.declared.tree.Row.{Row}
use Rattle.dav_core.specs.declared.tree.Kind.{Kind}
use Rattle.dav_core.specs.declared.tree.Kind.TheVariants.{File}
use Rattle.dav_core.specs.declared.time.FileTime.{FileTime}
use Rattle.dav_core.specs.declared.handle.Handle.{Handle}
use Rattle.dav_core.specs.declared.handle.OpenOptions.{OpenOptions}
use Rattle.dav_core.specs.declared.handle.DiskError.{DiskError}
use Rattle.dav_core.specs.declared.handle.DiskError.TheVariants.{NotFound, Exists, NotDir, IsDir, NotEmpty, Failed, NoMemory}
use Rattle.dav_core.specs.Path.{Names}
use Rattle.dav_core.specs.World.{World, OpenFile, AreGiven, put, bytes_of}
use Rattle.dav_core.specs.Changes.{tick}
use Rattle.dav_core.specs.Disk.{Live, with_opens, at_start}
use Rattle.dav_core.specs.Edits.{Edit, makes, fills}
use Rattle.dav_core.specs.Allowed.{place, opening}
use Rattle.dav_core.proofs.UnchangedLemmas.{equal_keys}
use Rattle.dav_disk.specs.Calls.{Known, with_closed}
use Rattle.dav_disk.specs.Making.{MakesAt, OpensAs, OpensBy, opened_known, edited, edited_by, filled_at, is_spent}
use Rattle.dav_disk.specs.Files.{AreStored, NamesNoDir}
use Rattle.dav_disk.proofs.DirsStay.{is_kept}
use Rattle.dav_disk.proofs.Edited.{edited_opens}
use Rattle.dav_disk.proofs.GivenStay.{bounded_of}
use Rattle.dav_disk.proofs.Judges.{Judged}
use Rattle.dav_core.proofs.Rows.{row_at_in}
use Rattle.dav_core.proofs.PlaceLemmas.{placed_row}

-- what stands at a place has a number that was given
pub placed_given : (w : World) (path : Names) (row : Row) → AreGiven w.tree w.files w.opens w.greatest w.latest → place w.tree path ≡ Ok (Some row) → row.number ≤ w.greatest
placed_given w path row given at = ((bounded_of w given).rows row (row_at_in w.tree path row (placed_row w.tree path (Some row) at)).0).within

-- a file that stands at a place is stored
pub placed_kept : (w : World) (path : Names) (row : Row) → AreStored w.tree w.files → place w.tree path ≡ Ok (Some row) → row.kind ≡ File → is_some (w.files row.number) ≡ true
placed_kept w path row stored at file = is_kept w.tree w.files row stored (row_at_in w.tree path row (placed_row w.tree path (Some row) at)).0 file

-- An opening that makes nothing leaves what has which number.
pub opened_no_dir : (k n : Known) (number : ℕ) (kind : Kind) (how : OpenOptions) (h : Handle) → OpensBy None number kind how k (Ok h) n → NamesNoDir k.world.tree number → NamesNoDir n.world.tree number
opened_no_dir k n number kind how h (m, none, free, is) apart =
    let world : k.world ≡ m = cc in
    let tree : n.world.tree ≡ k.world.tree = ap (λ (n : Known). n.world.tree) is ∙ ap (λ (w : World). w.tree) (sym world) in
    rw tree apart

-- ---- the answers of `open`

pub opened_as : (k n : Known) (path : Names) (how : OpenOptions) (result : Result Handle DiskError) (row : Row) (edit : Option Edit) → place k.world.tree path ≡ Ok (Some row)
    → opening k.world.tree path how ≡ Ok edit → OpensBy edit row.number row.kind how k result n → OpensAs k path how result n
opened_as k n path how (Ok h) row edit at judged by = (edit, row.number, row.kind, judged, inr (row, at, refl, refl), by)
opened_as k n path how (Err Failed) row edit at judged by = (by.0, ap (λ a. is_spent a k.world) judged ∙ by.1)
opened_as k n path how (Err NoMemory) row edit at judged by = (by.0, ap (λ a. is_spent a k.world) judged ∙ by.1)
opened_as k n path how (Err NotFound) row edit at judged by = absurd by
opened_as k n path how (Err Exists) row edit at judged by = absurd by
opened_as k n path how (Err NotDir) row edit at judged by = absurd by
opened_as k n path how (Err IsDir) row edit at judged by = absurd by
opened_as k n path how (Err NotEmpty) row edit at judged by = absurd by

pub made_as : (k n : Known) (path : Names) (how : OpenOptions) (result : Result Handle DiskError) → place k.world.tree path ≡ Ok None
    → opening k.world.tree path how ≡ Ok (Some (makes path File [])) → OpensBy (Some (makes path File [])) (k.world.greatest + 1) File how k result n → OpensAs k path how result n
made_as k n path how (Ok h) at judged by = (Some (makes path File []), k.world.greatest + 1, File, judged, inl (refl, refl, refl, at), by)
made_as k n path how (Err Failed) at judged by = (by.0, ap (λ a. is_spent a k.world) judged ∙ by.1)
made_as k n path how (Err NoMemory) at judged by = (by.0, ap (λ a. is_spent a k.world) judged ∙ by.1)
made_as k n path how (Err NotFound) at judged by = absurd by
made_as k n path how (Err Exists) at judged by = absurd by
made_as k n path how (Err NotDir) at judged by = absurd by
made_as k n path how (Err IsDir) at judged by = absurd by
made_as k n path how (Err NotEmpty) at judged by = absurd by

pub refused_as : (k : Known) (path : Names) (how : OpenOptions) (e : DiskError) → Judged e → opening k.world.tree path how ≡ Err e → OpensAs k path how (Err e) k
refused_as k path how NotFound j h = (refl, h)
refused_as k path how Exists j h = (refl, h)
refused_as k path how NotDir j h = (refl, h)
refused_as k path how IsDir j h = (refl, h)
refused_as k path how NotEmpty j h = (refl, h)
refused_as k path how Failed j h = absurd j
refused_as k path how NoMemory j h = absurd j

-- ---- files that are emptied

pub can_so : (b : Bool) (o : Option World) → b ≡ not (is_none o) → b ≡ true → is_none o ≡ false
can_so b None e f = absurd (let t : true ≡ false = sym f ∙ e in cc)
can_so b (Some w) e f = refl

fills_by : (b : Bool) (number : ℕ) (bytes : List ℕ) (w : World) (opens : ℕ → Option OpenFile) (o : Option FileTime)
    → cond b (Some (with_opens w opens)) (filled_at number bytes o (with_opens w opens)) ≡ option_map (λ x. with_opens x opens) (cond b (Some w) (filled_at number bytes o w))
fills_by true number bytes w opens o = refl
fills_by false number bytes w opens None = refl
fills_by false number bytes w opens (Some t) = refl

-- the edit doesn't see which files are open
fills_opens : (number : ℕ) (bytes : List ℕ) (w : World) (opens : ℕ → Option OpenFile) → edited (fills number bytes) (with_opens w opens) ≡ option_map (λ x. with_opens x opens) (edited (fills number bytes) w)
fills_opens number bytes w opens = fills_by (bytes_eq bytes (bytes_of w number)) number bytes w opens (tick w.latest)

map_some : (f : World → World) (x : Option World) (y : World) → option_map f x ≡ Some y → (m : World) × (x ≡ Some m) × (f m ≡ y)
map_some f None y e = cc
map_some f (Some m) y e = (m, refl, cc)

none_map : (f : World → World) (x : Option World) → is_none (option_map f x) ≡ is_none x
none_map f None = refl
none_map f (Some m) = refl

-- what was opened, and then emptied
pub emptied_ok : (k first n : Known) (number : ℕ) (kind : Kind) (how : OpenOptions) (h : Handle) → OpensBy None number kind how k (Ok h) first
    → MakesAt (Ok (Some (fills number []))) first (Ok tt) n → OpensBy (Some (fills number [])) number kind how k (Ok h) n
emptied_ok k first n number kind how h (w, here, free, is) (edit, same, made, rest) =
    let world : w ≡ k.world = (let e : k.world ≡ w = cc in sym e) in
    let opens : ℕ → Option OpenFile = put h.0 (Some (at_start number)) k.world.opens in
    let first_is : first ≡ opened_known k k.world h.0 number kind how = is ∙ ap (λ w. opened_known k w h.0 number kind how) world in
    let some : Some (fills number []) ≡ edit = cc in
    let in_first : edited (fills number []) (with_opens k.world opens) ≡ Some n.world =
    ap (λ (k : Known). edited (fills number []) k.world) (sym first_is) ∙ ap (λ x. edited_by x first.world) some ∙ made in
    let (m, done, back) = map_some (λ x. with_opens x opens) (edited (fills number []) k.world) n.world (sym (fills_opens number [] k.world opens) ∙ in_first) in
    let still = (edited_opens (Some (fills number [])) k.world m done).opens in (
      m,
      done,
      free,
      rest ∙ ap (λ (f : Known). record f { world = n.world }) first_is ∙ ap (λ (w : World). record (opened_known k k.world h.0 number kind how) { world = w }) (sym back)
          ∙ ap (λ (o : ℕ → Option OpenFile). record (opened_known k k.world h.0 number kind how) { world = with_opens m (put h.0 (Some (at_start number)) o) }) (sym still),
    )

put_gone : {A : Type 0} (b : Bool) (f : ℕ → Option A) (h n : ℕ) (a : Option A) → (n == h) ≡ b → f h ≡ None → cond b None (cond b a (f n)) ≡ f n
put_gone true f h n a e free = sym (ap f (equal_keys n h e) ∙ free)
put_gone false f h n a e free = refl

-- a handle that is put and taken again
put_again : {A : Type 0} (f : ℕ → Option A) (h : ℕ) (a : Option A) → f h ≡ None → put h None (put h a f) ≡ f
put_again f h a free = fun_ext (λ n. put_gone (n == h) f h n a refl free)

closed_again : (k first : Known) (number : ℕ) (kind : Kind) (how : OpenOptions) (h : Handle) → k.world.opens h.0 ≡ None → OpensBy None number kind how k (Ok h) first → with_closed first h.0 ≡ k
closed_again k first number kind how h none (w, here, free, is) =
    let world : w ≡ k.world = (let e : k.world ≡ w = cc in sym e) in
    ap (λ (f : Known). with_closed f h.0) (is ∙ ap (λ w. opened_known k w h.0 number kind how) world)
    ∙ ap (λ (o : ℕ → Option OpenFile). record { world = with_opens k.world o; live = put h.0 None (put h.0 (Some (record { kind = kind; how = how })) k.live) }) (put_again k.world.opens h.0 (Some (at_start number)) none)
    ∙ ap (λ (l : ℕ → Option Live). record k { live = l }) (put_again k.live h.0 (Some (record { kind = kind; how = how })) free)

-- what was opened and couldn't be emptied
pub emptied_err : (k first second : Known) (number : ℕ) (kind : Kind) (how : OpenOptions) (h : Handle) (e : DiskError) → k.world.opens h.0 ≡ None → OpensBy None number kind how k (Ok h) first
    → MakesAt (Ok (Some (fills number []))) first (Err e) second → is_none (edited (fills number []) k.world) ≡ false → OpensBy (Some (fills number [])) number kind how k (Err e) (with_closed second h.0)
emptied_err k first second number kind how h Failed none (w, here, free, is) (same, spent) left =
    absurd (let world : k.world ≡ w = cc in
    let t : true ≡ false = sym spent ∙ ap (λ (k : Known). is_none (edited (fills number []) k.world)) is
    ∙ ap (λ (w : World). is_none (edited (fills number []) (with_opens w (put h.0 (Some (at_start number)) w.opens)))) (sym world)
    ∙ ap is_none (fills_opens number [] k.world (put h.0 (Some (at_start number)) k.world.opens)) ∙ none_map (λ x. with_opens x (put h.0 (Some (at_start number)) k.world.opens)) (edited (fills number []) k.world) ∙ left in cc)
emptied_err k first second number kind how h NoMemory none by (same, kept) left =
    (ap (λ (f : Known). with_closed f h.0) same ∙ closed_again k first number kind how h none by, left)
emptied_err k first second number kind how h NotFound none by (same, clash) left = absurd cc
emptied_err k first second number kind how h Exists none by (same, clash) left = absurd cc
emptied_err k first second number kind how h NotDir none by (same, clash) left = absurd cc
emptied_err k first second number kind how h IsDir none by (same, clash) left = absurd cc
emptied_err k first second number kind how h NotEmpty none by (same, clash) left = absurd cc

-- a handle that isn't live has nothing open
pub nothing_open : {X Y Z : Type 0} (f : X → Y) (g : X → Z) (o : Option X) → option_map f o ≡ None → option_map g o ≡ None
nothing_open f g None e = refl
nothing_open f g (Some x) e = cc
