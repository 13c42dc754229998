-- An opening that does what is allowed is what the trait of disks asks, with the counts beside it.
use Rattle.std.proofs.Common.{◌≡◌, ◌==◌, ◌+◌, ◌&&◌, ◌||◌, ◌⊎◌, ◌∷◌, ◌++◌, [], ℕ, List, Bool, true, false, cond, map, Option, None, Some, Result, Ok, Err, IsErrOf, OnErr, inl, inr, refl, sym, ap, ◌∙◌, nat_lt}
use Rattle.std.specs.Option.{option_map}
use Rattle.std.specs.Str.{bytes_eq}
use Rattle.dav_io.specs.Counts.{greatest as most}
use Rattle.dav_core.specs.declared.tree.Row.{Row}
use Rattle.dav_core.specs.declared.tree.Kind.{Kind}
use Rattle.dav_core.specs.declared.tree.Kind.TheVariants.{File}
use Rattle.dav_core.specs.declared.handle.Handle.{Handle}
use Rattle.dav_core.specs.declared.handle.OpenOptions.{OpenOptions}
use Rattle.dav_core.specs.declared.handle.DiskError.{DiskError}
use Rattle.dav_core.specs.declared.handle.DiskError.TheVariants.{NotFound, Exists, NotDir, IsDir, NotEmpty, Failed, NoMemory}
use Rattle.dav_core.specs.declared.time.FileTime.{FileTime}
use Rattle.dav_core.specs.Path.{Names, same_names, parent_of}
use Rattle.dav_core.specs.Tree.{look, row_at, is_dir, is_file, IsTreeRefusal}
use Rattle.dav_core.specs.World.{World, OpenFile, Holds, SameBesidesOpens, Stored, AreGiven, is_numbered, put, bytes_of}
use Rattle.dav_core.specs.Disk.{Live, Opens, OpenedBy, OpenedIn, OpenedOver, MayRefuseOpen, Refused, may_change, kind_opened, with_opens, at_start}
use Rattle.dav_core.specs.Edits.{Edit, makes, fills, filled, timed_number}
use Rattle.dav_core.specs.Changes.{tick, timed_row, touched_at, then_touched, added_at, stored_in}
use Rattle.dav_core.specs.Allowed.{Allowed, place, opening, opening_at, opening_row}
use Rattle.dav_core.proofs.LookLemmas.{look_err}
use Rattle.dav_core.proofs.PlaceLemmas.{look_place, stands_at, placed_row}
use Rattle.dav_core.proofs.UnchangedLemmas.{put_same, same_besides}
use Rattle.dav_disk.specs.Calls.{Known, state_of, lengths}
use Rattle.dav_disk.specs.Making.{OpensAs, IsOpened, edited, edited_by, filled_at, is_spent}
use Rattle.dav_disk.proofs.Edited.{edited_by_is, edited_opens}
use Rattle.dav_disk.proofs.Judges.{opening_err}
use Rattle.dav_disk.specs.Failing.{UnlessFault}
use Rattle.dav_disk.proofs.Makes.{Noted, is_counted, unless_fault, refused_not_spent, made_not_spent}
use Rattle.dav_disk.proofs.Then.{edited_then, put_besides}
use Rattle.dav_disk.proofs.Trees.{not_both}
use Rattle.dav_core.proofs.Paths.{names_equal}
use Rattle.dav_core.proofs.Rows.{row_at_in, numbered_in, first_none}
use Rattle.dav_core.proofs.ChangedRows.{set_kind, set_number, set_path}

abbrev Given : World → Type 0
Given w = AreGiven w.tree w.files w.opens w.greatest w.latest

-- ---- openings that change nothing

-- the options of an opening that changes nothing
record Plainly (how : OpenOptions) : Type 0 where
  write : how.write ≡ false
  append : how.append ≡ false
  truncate : how.truncate ≡ false
  create : how.create ≡ false
  create_new : how.create_new ≡ false

no_change : (a b c d e : Bool) → (a || (b || (c || (d || e)))) ≡ false → (a ≡ false) × (b ≡ false) × (c ≡ false) × (d ≡ false) × (e ≡ false)
no_change true b c d e h = cc
no_change false true c d e h = cc
no_change false false true d e h = cc
no_change false false false true e h = cc
no_change false false false false true h = cc
no_change false false false false false h = (refl, refl, refl, refl, refl)

plainly : (how : OpenOptions) → may_change how ≡ false → Plainly how
plainly how h =
    let t = no_change how.write how.append how.truncate how.create how.create_new h in
    record { write = t.0; append = t.1; truncate = t.2; create = t.3; create_new = t.4 }

plain_by : (n w a t d f : Bool) (e : Edit) → n ≡ false → w ≡ false → a ≡ false → cond n (Err Exists) (cond (d && (w || a)) (Err IsDir) (Ok (cond (f && (w && t)) (Some e) None))) ≡ Ok None
plain_by true w a t d f e p q r = cc
plain_by false true a t d f e p q r = cc
plain_by false false true t d f e p q r = cc
plain_by false false false t true true e p q r = refl
plain_by false false false t true false e p q r = refl
plain_by false false false t false true e p q r = refl
plain_by false false false t false false e p q r = refl

plain_row : (how : OpenOptions) (row : Row) → Plainly how → opening_row how row ≡ Ok None
plain_row how row p = plain_by how.create_new how.write how.append how.truncate (is_dir row.kind) (is_file row.kind) (fills row.number []) p.create_new p.write p.append

none_made : (c n : Bool) (x y : Allowed) → c ≡ false → n ≡ false → cond (c || n) x y ≡ y
none_made true n x y p q = cc
none_made false true x y p q = cc
none_made false false x y p q = refl

-- then what stands there is opened as it is
plain_ok : (how : OpenOptions) (path : Names) (found : Result (Option Row) DiskError) (edit : Option Edit) → Plainly how → opening_at how path found ≡ Ok edit
    → (row : Row) × (found ≡ Ok (Some row)) × (edit ≡ None)
plain_ok how path (Err e) edit p h = cc
plain_ok how path (Ok (Some row)) edit p h = (row, refl, (let same : Ok None ≡ Ok edit = sym (plain_row how row p) ∙ h in cc))
plain_ok how path (Ok None) edit p h =
    absurd (let clash : Err NotFound ≡ Ok edit = sym (none_made how.create how.create_new (Ok (Some (makes path File []))) (Err NotFound) p.create p.create_new) ∙ h in cc)

-- or refused as a look is
plain_err : (how : OpenOptions) (path : Names) (found : Result (Option Row) DiskError) (e : DiskError) → Plainly how → opening_at how path found ≡ Err e → stands_at found ≡ Err e
plain_err how path (Err x) e p h = (let same : x ≡ e = cc in ap Err same)
plain_err how path (Ok (Some row)) e p h = absurd (let clash : Ok None ≡ Err e = sym (plain_row how row p) ∙ h in cc)
plain_err how path (Ok None) e p h =
    (let same : Err NotFound ≡ Err e = sym (none_made how.create how.create_new (Ok (Some (makes path File []))) (Err NotFound) p.create p.create_new) ∙ h in
    let x : NotFound ≡ e = cc in ap Err x)

-- ---- rows

chosen_map : (b : Bool) (f : Row → Row) (x : Row) (o : Option Row) → cond b (Some (f x)) (option_map f o) ≡ option_map f (cond b (Some x) o)
chosen_map true f x o = refl
chosen_map false f x o = refl

-- what stands at a path, once rows are changed that keep their paths
row_at_map : (f : Row → Row) (rows : List Row) (path : Names) → ((r : Row) → (f r).path ≡ r.path) → row_at (map f rows) path ≡ option_map f (row_at rows path)
row_at_map f [] path keeps = refl
row_at_map f (x ∷ rows) path keeps =
    ap (λ (p : Names). cond (same_names path p) (Some (f x)) (row_at (map f rows) path)) (keeps x)
    ∙ ap (λ o. cond (same_names path x.path) (Some (f x)) o) (row_at_map f rows path keeps)
    ∙ chosen_map (same_names path x.path) f x (row_at rows path)

-- a row more stands at its path
row_at_more : (rows : List Row) (row : Row) → row_at rows row.path ≡ None → row_at (rows ++ row ∷ []) row.path ≡ Some row
row_at_more [] row e = ap (λ b. cond b (Some row) None) (names_equal row.path row.path refl)
row_at_more (x ∷ rows) row e =
    let t = first_none (same_names row.path x.path) x (row_at rows row.path) e in
    ap (λ b. cond b (Some x) (row_at (rows ++ row ∷ []) row.path)) t.0 ∙ row_at_more rows row t.1

-- ---- the row that is opened, in the world that is made

record Stands (w : World) (path : Names) (number : ℕ) (kind : Kind) : Type 0 where
  row : Row
  here : row_at w.tree path ≡ Some row
  number_is : row.number ≡ number
  kind_is : row.kind ≡ kind

-- the rows after a file was made
record Rows (v m : World) (path : Names) : Type 0 where
  made : FileTime
  touched : FileTime
  tree : m.tree ≡ map (timed_row (parent_of path) touched) (v.tree ++ record { path = path; kind = File; number = v.greatest + 1; time = made } ∷ [])
  greatest : m.greatest ≡ v.greatest + 1

rows_then : (path : Names) (v m : World) (t : FileTime) (files : ℕ → Option Stored) (o : Option FileTime)
    → touched_at (parent_of path) o (record v { tree = v.tree ++ record { path = path; kind = File; number = v.greatest + 1; time = t } ∷ []; files = files; greatest = v.greatest + 1; latest = t }) ≡ Some m → Rows v m path
rows_then path v m t files None e = cc
rows_then path v m t files (Some u) e =
    let same : record v { tree = map (timed_row (parent_of path) u) (v.tree ++ record { path = path; kind = File; number = v.greatest + 1; time = t } ∷ []); files = files; greatest = v.greatest + 1; latest = u } ≡ m = cc in
    record { made = t; touched = u; tree = ap (λ (w : World). w.tree) (sym same); greatest = ap (λ (w : World). w.greatest) (sym same) }

rows_by : (b : Bool) (path : Names) (v m : World) (o : Option FileTime) → then_touched (parent_of path) (stored_in [] (cond b (added_at path File o v) None)) ≡ Some m → Rows v m path
rows_by true path v m None e = cc
rows_by true path v m (Some t) e = rows_then path v m t (put (v.greatest + 1) (Some (record { bytes = []; time = t })) v.files) (tick t) e
rows_by false path v m o e = cc

-- a file that is made has the next number
pub made_greatest : (v m : World) (path : Names) → edited (makes path File []) v ≡ Some m → m.greatest ≡ v.greatest + 1
made_greatest v m path e = (rows_by (nat_lt v.greatest most) path v m (tick v.latest) e).greatest

made_stands : (v m : World) (path : Names) → place v.tree path ≡ Ok None → edited (makes path File []) v ≡ Some m → Stands m path (v.greatest + 1) File
made_stands v m path free e =
    let r = rows_by (nat_lt v.greatest most) path v m (tick v.latest) e in
    let row : Row = record { path = path; kind = File; number = v.greatest + 1; time = r.made } in
    let f : Row → Row = timed_row (parent_of path) r.touched in
    record {
      row = f row;
      here = ap (λ (t : List Row). row_at t path) r.tree ∙ row_at_map f (v.tree ++ row ∷ []) path (λ x. set_path (same_names (parent_of path) x.path) r.touched x)
          ∙ ap (option_map f) (row_at_more v.tree row (placed_row v.tree path None free));
      number_is = set_number (same_names (parent_of path) path) r.touched row;
      kind_is = set_kind (same_names (parent_of path) path) r.touched row;
    }

filled_stands : (v m : World) (path : Names) (n : ℕ) (bytes : List ℕ) (row : Row) (o : Option FileTime) → row_at v.tree path ≡ Some row → filled_at n bytes o v ≡ Some m → Stands m path row.number row.kind
filled_stands v m path n bytes row None at e = cc
filled_stands v m path n bytes row (Some t) at e =
    let f : Row → Row = timed_number n t in
    let same : map f v.tree ≡ m.tree = (let w : record (filled n bytes t v) { latest = t } ≡ m = cc in ap (λ (w : World). w.tree) w) in
    record {
      row = f row;
      here = ap (λ (t : List Row). row_at t path) (sym same) ∙ row_at_map f v.tree path (λ x. set_path (x.number == n) t x) ∙ ap (option_map f) at;
      number_is = set_number (row.number == n) t row;
      kind_is = set_kind (row.number == n) t row;
    }

fills_stand : (b : Bool) (v m : World) (path : Names) (n : ℕ) (bytes : List ℕ) (row : Row) → row_at v.tree path ≡ Some row → cond b (Some v) (filled_at n bytes (tick v.latest) v) ≡ Some m → Stands m path row.number row.kind
fills_stand true v m path n bytes row at e = record { row = row; here = (let same : v ≡ m = cc in ap (λ (w : World). row_at w.tree path) (sym same)) ∙ at; number_is = refl; kind_is = refl }
fills_stand false v m path n bytes row at e = filled_stands v m path n bytes row (tick v.latest) at e

row_edit : (n d f : Bool) (e : Edit) (x : Option Edit) → cond n (Err Exists) (cond d (Err IsDir) (Ok (cond f (Some e) None))) ≡ Ok x → (x ≡ None) ⊎ (x ≡ Some e)
row_edit true d f e x h = cc
row_edit false true f e x h = cc
row_edit false false true e x h = inr cc
row_edit false false false e x h = inl cc

row_stands : (v m : World) (path : Names) (row : Row) (x : Option Edit) → row_at v.tree path ≡ Some row → (x ≡ None) ⊎ (x ≡ Some (fills row.number [])) → edited_by x v ≡ Some m → Stands m path row.number row.kind
row_stands v m path row x at (inl none) e =
    let same : Some v ≡ Some m = ap (λ x. edited_by x v) (sym none) ∙ e in
    record { row = row; here = (let w : v ≡ m = cc in ap (λ (w : World). row_at w.tree path) (sym w)) ∙ at; number_is = refl; kind_is = refl }
row_stands v m path row x at (inr some) e =
    fills_stand (bytes_eq [] (bytes_of v row.number)) v m path row.number [] row at (ap (λ x. edited_by x v) (sym some) ∙ e)

opened_stands : (v m : World) (path : Names) (how : OpenOptions) (edit : Option Edit) (number : ℕ) (kind : Kind) → opening v.tree path how ≡ Ok edit → IsOpened v path edit number kind → edited_by edit v ≡ Some m
    → Stands m path number kind
opened_stands v m path how edit number kind judged (inl (n, k, made, free)) e = rw (n, k) (made_stands v m path free (ap (λ x. edited_by x v) (sym made) ∙ e))
opened_stands v m path how edit number kind judged (inr (row, at, n, k)) e =
    let h : opening_row how row ≡ Ok edit = ap (opening_at how path) (sym at) ∙ judged in
    rw (← n, ← k) (row_stands v m path row edit (placed_row v.tree path (Some row) at)
    (row_edit how.create_new (is_dir row.kind && (how.write || how.append)) (is_file row.kind && (how.write && how.truncate)) (fills row.number []) edit h) e)

-- ---- what an opening does

kind_put : (live : ℕ → Option Live) (h : ℕ) (l : Live) (new : ℕ → Option Live) → new ≡ put h (Some l) live → option_map (λ l. l.kind) (new h) ≡ Some l.kind
kind_put live h l new e = ap (λ (t : ℕ → Option Live). option_map (λ (l : Live). l.kind) (t h)) e ∙ ap (option_map (λ (l : Live). l.kind)) (put_same h (Some l) live)

over_ok : (k n : Known) (path : Names) (how : OpenOptions) (h : Handle) (f a : ℕ) (x : Bool) → Given k.world → OpensAs k path how (Ok h) n
    → OpenedOver path how (Ok h) (kind_opened (Ok h) (state_of n f a x)) k.world n.world
over_ok k n path how h f a x given (edit, number, kind, judged, opened, (m, made, free, e)) =
    let opens = edited_opens edit k.world m made in
    let s = opened_stands k.world m path how edit number kind judged opened made in
    let w : World = with_opens m (put h.0 (Some (at_start number)) m.opens) in
    let world : n.world ≡ w = ap (λ (n : Known). n.world) e in
    let held : Holds m number = inl (rw (← s.number_is) (numbered_in m.tree s.row (row_at_in m.tree path s.row s.here).0)) in
    let beside : SameBesidesOpens m w = put_besides m h.0 (Some (at_start number)) (λ n f. let same : number ≡ n = cc in rw (← same) held) in (
      number,
      ap (λ (w : World). w.opens) world ∙ ap (λ (t : ℕ → Option OpenFile). put h.0 (Some (at_start number)) t) opens.opens,
      ap (λ (w : World). w.listings) world ∙ opens.listings,
      rw world (inl (numbered m s number (s.number_is))),
      λ linked. (
        edit,
        s.row,
        judged,
        rw world (edited_then edit k.world m w (edited_by_is edit k.world m given made) beside),
        rw world s.here,
        s.number_is,
        kind_put k.live h.0 (record { kind = kind; how = how }) n.live (ap (λ (n : Known). n.live) e) ∙ ap Some (sym s.kind_is),
      ),
    )
  where
    numbered : (m : World) (s : Stands m path number kind) (number : ℕ) → s.row.number ≡ number → is_numbered m.tree number ≡ true
    numbered m s number e = rw (← e) (numbered_in m.tree s.row (row_at_in m.tree path s.row s.here).0)

in_ok : (k n : Known) (path : Names) (how : OpenOptions) (h : Handle) (f a : ℕ) (x : Bool) → Plainly how → OpensAs k path how (Ok h) n
    → OpenedIn path (Ok h) (kind_opened (Ok h) (state_of n f a x)) k.world n.world
in_ok k n path how h f a x plain (edit, number, kind, judged, opened, (m, made, free, e)) =
    let (row, at, none) = plain_ok how path (place k.world.tree path) edit plain judged in
    let same : Some k.world ≡ Some m = ap (λ x. edited_by x k.world) (sym none) ∙ made in
    let world : m ≡ k.world = (let w : k.world ≡ m = cc in sym w) in
    let found : look k.world.tree path ≡ Ok row = look_place k.world.tree path ∙ ap stands_at at in
    let is : (row.number ≡ number) × (row.kind ≡ kind) = is_row row at opened in (
      number,
      ap (λ (n : Known). n.world) e ∙ ap (λ (m : World). with_opens m (put h.0 (Some (at_start number)) m.opens)) world,
      inl (rw (← is.0) (numbered_in k.world.tree row (row_at_in k.world.tree path row (placed_row k.world.tree path (Some row) at)).0)),
      λ linked. (row, found, is.0, kind_put k.live h.0 (record { kind = kind; how = how }) n.live (ap (λ (n : Known). n.live) e) ∙ ap Some (sym is.1)),
    )
  where
    is_row : (row : Row) → place k.world.tree path ≡ Ok (Some row) → IsOpened k.world path edit number kind → (row.number ≡ number) × (row.kind ≡ kind)
    is_row row at (inl (n, kind, made, free)) = absurd (let clash : Ok (Some row) ≡ Ok None = sym at ∙ free in cc)
    is_row row at (inr (other, there, n, kind)) = (let both : Ok (Some row) ≡ Ok (Some other) = sym at ∙ there in let same : row ≡ other = cc in rw same (n, kind))

refused_so : (path : Names) (how : OpenOptions) (k n : Known) (e : DiskError) → OpensAs k path how (Err e) n → (n ≡ k) × Refused e (opening k.world.tree path how)
refused_so path how k n Failed o = (o.0, tt)
refused_so path how k n NoMemory o = (o.0, tt)
refused_so path how k n NotFound o = o
refused_so path how k n Exists o = o
refused_so path how k n NotDir o = o
refused_so path how k n IsDir o = o
refused_so path how k n NotEmpty o = o

refused_plain : (path : Names) (how : OpenOptions) (tree : List Row) (e : DiskError) → Plainly how → Refused e (opening tree path how) → Refused e (look tree path)
refused_plain path how tree Failed p r = tt
refused_plain path how tree NoMemory p r = tt
refused_plain path how tree NotFound p r = look_place tree path ∙ plain_err how path (place tree path) NotFound p r
refused_plain path how tree Exists p r = look_place tree path ∙ plain_err how path (place tree path) Exists p r
refused_plain path how tree NotDir p r = look_place tree path ∙ plain_err how path (place tree path) NotDir p r
refused_plain path how tree IsDir p r = look_place tree path ∙ plain_err how path (place tree path) IsDir p r
refused_plain path how tree NotEmpty p r = look_place tree path ∙ plain_err how path (place tree path) NotEmpty p r

opened_by : (b : Bool) (k n : Known) (path : Names) (how : OpenOptions) (result : Result Handle DiskError) (f a : ℕ) (x : Bool) → may_change how ≡ b → Given k.world → OpensAs k path how result n
    → OpenedBy b path how result (kind_opened result (state_of n f a x)) k.world n.world
opened_by true k n path how (Ok h) f a x may given o = over_ok k n path how h f a x given o
opened_by true k n path how (Err e) f a x may given o =
    let r = refused_so path how k n e o in
    (rw r.0 (record { opens = refl; listings = refl }), λ linked. (rw r.0 (same_besides k.world), r.1))
opened_by false k n path how (Ok h) f a x may given o = in_ok k n path how h f a x (plainly how may) o
opened_by false k n path how (Err e) f a x may given o =
    let r = refused_so path how k n e o in
    (ap (λ (n : Known). n.world) r.0, λ linked. refused_plain path how k.world.tree e (plainly how may) r.1)

may_refuse : (b : Bool) (path : Names) (how : OpenOptions) (tree : List Row) (e : DiskError) → may_change how ≡ b → Refused e (opening tree path how) → MayRefuseOpen b e
may_refuse true path how tree Failed may r = tt
may_refuse true path how tree NoMemory may r = tt
may_refuse true path how tree NotFound may r = tt
may_refuse true path how tree Exists may r = tt
may_refuse true path how tree NotDir may r = tt
may_refuse true path how tree IsDir may r = tt
may_refuse true path how tree NotEmpty may r = opening_err (MayRefuseOpen true) tree path how tt tt tt tt NotEmpty r
may_refuse false path how tree Failed may r = tt
may_refuse false path how tree NoMemory may r = tt
may_refuse false path how tree NotFound may r = tt
may_refuse false path how tree NotDir may r = tt
may_refuse false path how tree Exists may r = by_tree Exists (look_err tree path Exists (refused_plain path how tree Exists (plainly how may) r))
  where
    by_tree : (e : DiskError) → IsTreeRefusal e → MayRefuseOpen false e
    by_tree e (inl h) = rw h tt
    by_tree e (inr h) = rw h tt
may_refuse false path how tree IsDir may r = by_tree IsDir (look_err tree path IsDir (refused_plain path how tree IsDir (plainly how may) r))
  where
    by_tree : (e : DiskError) → IsTreeRefusal e → MayRefuseOpen false e
    by_tree e (inl h) = rw h tt
    by_tree e (inr h) = rw h tt
may_refuse false path how tree NotEmpty may r = by_tree NotEmpty (look_err tree path NotEmpty (refused_plain path how tree NotEmpty (plainly how may) r))
  where
    by_tree : (e : DiskError) → IsTreeRefusal e → MayRefuseOpen false e
    by_tree e (inl h) = rw h tt
    by_tree e (inr h) = rw h tt

pub open_done : (k n : Known) (f a : ℕ) (x : Bool) (g b : ℕ) (y : Bool) (path : Names) (how : OpenOptions) (result : Result Handle DiskError) → Noted result f a x g b y → Given k.world → OpensAs k path how result n
    → Opens (state_of k f a x) path how result (state_of n g b y)
open_done k n f a x g b y path how (Ok h) c given o =
    let (edit, number, kind, judged, opened, (m, made, free, e)) = o in
    record {
      asks = record { counted = is_counted (Ok h) k n f a x g b y c; listers = ap (λ (n : Known). lengths n.world.listings) e ∙ ap lengths (edited_opens edit k.world m made).listings };
      only = tt;
      live = (kind, free, ap (λ (n : Known). n.live) e);
      told = opened_by (may_change how) k n path how (Ok h) g b y refl given o;
    }
open_done k n f a x g b y path how (Err e) c given o =
    let r = refused_so path how k n e o in
    record {
      asks = record { counted = is_counted (Err e) k n f a x g b y c; listers = ap (λ (n : Known). lengths n.world.listings) r.0 };
      only = may_refuse (may_change how) path how k.world.tree e refl r.1;
      live = ap (λ (n : Known). n.live) r.0;
      told = opened_by (may_change how) k n path how (Err e) g b y refl given o;
    }

pub open_fails_done : (k : Known) (f a : ℕ) (x : Bool) (g b : ℕ) (y : Bool) (path : Names) (how : OpenOptions) → Noted {T = Handle} (Err Failed) f a x g b y → Opens (state_of k f a x) path how (Err Failed) (state_of k g b y)
open_fails_done k f a x g b y path how c = record {
  asks = record { counted = is_counted (Err Failed) k k f a x g b y c; listers = refl };
  only = may_refuse (may_change how) path how k.world.tree Failed refl tt;
  live = refl;
  told = fails_by (may_change how);
}
  where
    fails_by : (b : Bool) → OpenedBy b path how (Err Failed) None k.world k.world
    fails_by true = (record { opens = refl; listings = refl }, λ linked. (same_besides k.world, tt))
    fails_by false = (refl, λ linked. tt)

-- an opening fails by itself where it needs a number or a tick that isn't left
pub open_fails : (k n : Known) (path : Names) (how : OpenOptions) (result : Result Handle DiskError) → OpensAs k path how result n → IsErrOf result Failed → is_spent (opening k.world.tree path how) k.world ≡ true
open_fails k n path how (Ok h) o f = cc
open_fails k n path how (Err Failed) o f = o.1
open_fails k n path how (Err NoMemory) o f = cc
open_fails k n path how (Err NotFound) o f = cc
open_fails k n path how (Err Exists) o f = cc
open_fails k n path how (Err NotDir) o f = cc
open_fails k n path how (Err IsDir) o f = cc
open_fails k n path how (Err NotEmpty) o f = cc

pub fails_open : (k n : Known) (path : Names) (how : OpenOptions) (result : Result Handle DiskError) → OpensAs k path how result n → is_spent (opening k.world.tree path how) k.world ≡ true → IsErrOf result Failed
fails_open k n path how (Ok h) (edit, number, kind, judged, opened, (m, made, free, e)) spent = absurd (made_not_spent (opening k.world.tree path how) edit k.world m judged made spent)
fails_open k n path how (Err Failed) o spent = refl
fails_open k n path how (Err NoMemory) o spent = absurd (not_both (is_spent (opening k.world.tree path how) k.world) spent o.1)
fails_open k n path how (Err NotFound) o spent = absurd (refused_not_spent (opening k.world.tree path how) NotFound k.world o.1 spent)
fails_open k n path how (Err Exists) o spent = absurd (refused_not_spent (opening k.world.tree path how) Exists k.world o.1 spent)
fails_open k n path how (Err NotDir) o spent = absurd (refused_not_spent (opening k.world.tree path how) NotDir k.world o.1 spent)
fails_open k n path how (Err IsDir) o spent = absurd (refused_not_spent (opening k.world.tree path how) IsDir k.world o.1 spent)
fails_open k n path how (Err NotEmpty) o spent = absurd (refused_not_spent (opening k.world.tree path how) NotEmpty k.world o.1 spent)

-- an opening that is refused leaves the world
pub open_leaves : (k n : Known) (path : Names) (how : OpenOptions) (result : Result Handle DiskError) → OpensAs k path how result n → OnErr result (n.world ≡ k.world)
open_leaves k n path how (Ok h) o = tt
open_leaves k n path how (Err e) o = ap (λ (n : Known). n.world) (refused_so path how k n e o).0

open_same : (k n : Known) (path : Names) (how : OpenOptions) (result : Result Handle DiskError) → OpensAs k path how result n → IsErrOf result Failed → n ≡ k
open_same k n path how (Ok h) o f = cc
open_same k n path how (Err e) o f = (refused_so path how k n e o).0

-- what an opening makes
pub open_unless : (k n : Known) (path : Names) (how : OpenOptions) (result : Result Handle DiskError) → OpensAs k path how result n → UnlessFault result k n (OpensAs k path how result n)
open_unless k n path how result o = unless_fault result k n (OpensAs k path how result n) o (open_same k n path how result o)
