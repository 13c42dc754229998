-- The file of a visit that came whole, or was kept, is the whole of what its path has.
use Rattle.std.proofs.Common.{◌≡◌, ◌<◌, ◌≤◌, ◌+◌, ◌-◌, ◌^◌, ◌==◌, ◌||◌, ℕ, List, length, take, codes, Bool, true, false, cond, Option, None, Some, IfSome, Ok, refl, sym, ap, subst, ◌∙◌, arith, eqb-true, true≢false}
use Rattle.std.proofs.lemmas.List.{length-append, length-take-le, take_all}
use Rattle.dav_io.specs.Counts.{Rose}
use Rattle.dav_io.specs.declared.fields.Field.{Field}
use Rattle.dav_core.specs.declared.tree.Row.{Row}
use Rattle.dav_core.specs.Info.{known_time, tag_of}
use Rattle.dav_core.specs.Path.{Names}
use Rattle.dav_core.specs.Tree.{look}
use Rattle.dav_core.specs.World.{World, bytes_of}
use Rattle.dav_model.specs.Announced.{value_of}
use Rattle.dav_model.specs.declared.sent.Sent.TheVariants.{All, Alone}
use Rattle.dav_model.specs.Head.{sent_of, stood_in}
use Rattle.dav_core.specs.declared.method.DavMethod.TheVariants.{Get}
use Rattle.dav_core.proofs.Rows.{numbered_in}
use Rattle.dav_fetch.specs.declared.copied.Kept.{Kept}
use Rattle.dav_fetch.specs.declared.peer.Got.{Got}
use Rattle.dav_fetch.specs.Asking.{Awaits, asked_for, awaits, file_path, rest, same, whole}
use Rattle.dav_fetch.specs.Copy.{IsFileAt, IsFrontOf, IsOfWorld, tag_in, tag_value}
use Rattle.dav_fetch.specs.Fetching.{IsFileVisit, IsWhole, Visited, taken}
use Rattle.dav_fetch.specs.Judging.{Use, gives, grown, is_rest_of, keeps, new_file, number_said, refuses, replaced, rest_use, spoils, use_of}
use Rattle.dav_fetch.specs.Mirroring.{AreShort, IsGood, ShowsSame, whole_file}
use Rattle.dav_fetch.specs.Peer.{Carries, PeerState, RepliesOf}
use Rattle.dav_fetch.specs.Walk.{Visit}
use Rattle.dav_fetch.proofs.Quiet.{IsToldOf, came_left, told_reply}
use Rattle.dav_fetch.proofs.Sending.{has_text, same_sent}
use Rattle.dav_fetch.proofs.Served.{Served, served}
use Rattle.dav_fetch.proofs.Stepping.{GoodFor, HasTag, front_there, good_for, sent_as, step}
use Rattle.dav_fetch.proofs.TreeRows.{looked_is}

-- ---- worlds that show the same

pub bytes_there : (w v : World) (path : Names) (row : Row) → ShowsSame w v → look w.tree path ≡ Ok row → bytes_of v row.number ≡ bytes_of w row.number
bytes_there w v path row alike there = alike.bytes row.number (numbered_in w.tree row (looked_is w.tree path row there).0)

pub file_here : (w v : World) (path : Names) (row : Row) → ShowsSame w v → IsFileAt v path row → IsFileAt w path row
file_here w v path row alike at = record { there = subst (λ tree. look tree path ≡ Ok row) alike.tree at.there; file = at.file }

tag_same : (w v : World) (path : Names) (row : Row) → ShowsSame w v → look w.tree path ≡ Ok row → tag_in v row ≡ tag_in w row
tag_same w v path row alike there = ap (λ (bytes : List ℕ). tag_value (tag_of row.kind row.number (length bytes) (known_time row.time))) (bytes_there w v path row alike there)

good_there : (w v : World) (path : Names) (k : Kept) → ShowsSame w v → IsGood w path k → IsGood v path k
good_there w v path k alike good = record {
  path = good.path;
  kept = good.kept;
  faithful = λ some row at tag.
      (let here = file_here w v k.path row alike at in
      subst (IsFrontOf k) (sym (bytes_there w v k.path row alike here.there)) (good.faithful some row here (sym (tag_same w v k.path row alike here.there) ∙ tag)));
  small = good.small;
}

pub goods_there : (w v : World) (path : Names) (o : Option Kept) → ShowsSame w v → IfSome o (IsGood w path) → IfSome o (IsGood v path)
goods_there w v path None alike good = tt
goods_there w v path (Some k) alike good = good_there w v path k alike good

pub short_there : (w v : World) (path : Names) → ShowsSame w v → AreShort w path → AreShort v path
short_there w v path alike short row at =
    let here = file_here w v path row alike at in subst (λ (bytes : List ℕ). length bytes < 2 ^ 64) (sym (bytes_there w v path row alike here.there)) (short row here)

-- A file with the tag, the length and the bytes of a row is the whole of it.
all_alike : (w : World) (k : Kept) (row : Row) → k.tag ≡ tag_in w row → k.len ≡ length (bytes_of w row.number) → k.bytes ≡ bytes_of w row.number → k ≡ whole_file w k.path row
all_alike w k row tag len bytes =
    ap (λ t. record k { tag = t }) tag ∙ ap (λ l. record k { tag = tag_in w row; len = l }) len
    ∙ ap (λ b. record k { tag = tag_in w row; len = length (bytes_of w row.number); bytes = b }) bytes

-- what is kept of a row, whole
pub record IsAllOf (w : World) (path : Names) (k : Kept) : Type 0 where
  pub row : Row
  pub at : IsFileAt w path row
  pub is : k ≡ whole_file w path row

whole_of : (w : World) (path : Names) (k : Kept) (row : Row) → k.path ≡ path → IsFileAt w path row → k.tag ≡ tag_in w row → IsFrontOf k (bytes_of w row.number) → length k.bytes ≡ k.len → IsAllOf w path k
whole_of w path k row named at tag front all = record {
  row = row;
  at = at;
  is = all_alike w k row tag front.len bytes ∙ ap (λ p. whole_file w p row) named;
}
  where
    bytes : k.bytes ≡ bytes_of w row.number
    bytes = front.front ∙ take_all (length k.bytes) (bytes_of w row.number) (let len = front.len in omega (arith, len, all))

pub all_here : (w v : World) (path : Names) (k : Kept) → ShowsSame w v → IsAllOf v path k → IsAllOf w path k
all_here w v path k alike all =
    let here = file_here w v path all.row alike all.at in
    record {
      row = all.row;
      at = here;
      is = all.is ∙ ap (λ (bytes : List ℕ). record { path = path; tag = tag_value (tag_of all.row.kind all.row.number (length bytes) (known_time all.row.time)); len = length bytes; bytes = bytes })
          (bytes_there w v path all.row alike here.there);
    }

-- ---- bytes that are announced fill the file

abbrev pub Fills : Use → Type 0
Fills (gives f n) = length f.bytes + n ≡ f.len
Fills keeps = Unit {0}
Fills refuses = Unit {0}
Fills spoils = Unit {0}

pick : (b : Bool) (x y : Use) → Fills x → Fills y → Fills (cond b x y)
pick true x y p q = p
pick false x y p q = q

replaced_fills : (path : Names) (fields : List Field) → Fills (replaced path fields)
replaced_fills path fields = by (number_said (value_of (codes "content-length") fields))
  where
    by : (o : Option ℕ) → Fills (new_file path fields o)
    by None = tt
    by (Some n) = omega arith

rest_fills : (k : Kept) (fields : List Field) → length k.bytes ≤ k.len → Fills (rest_use k fields)
rest_fills k fields within = pick (is_rest_of k fields) (gives k (k.len - length k.bytes)) spoils (omega (arith, within)) tt

abbrev Fits : Awaits → Type 0
Fits whole = Unit {0}
Fits (rest k) = length k.bytes ≤ k.len
Fits (same k) = Unit {0}

awaits_fit : (w : World) (path : Names) (o : Option Kept) → IfSome o (IsGood w path) → Fits (awaits o)
awaits_fit w path None good = tt
awaits_fit w path (Some k) good = by (length k.tag == 0) (length k.bytes == k.len) (length k.bytes == 0)
  where
    by : (a b c : Bool) → Fits (cond a whole (cond b (same k) (cond c whole (rest k))))
    by true b c = tt
    by false true c = tt
    by false false true = tt
    by false false false = good.kept.within

pub use_fills : (path : Names) (a : Awaits) (status : ℕ) (fields : List Field) → Fits a → Fills (use_of path a status fields)
use_fills path whole status fields fit = pick (status == 200) (replaced path fields) refuses (replaced_fills path fields) tt
use_fills path (rest k) status fields fit =
    pick (status == 200) (replaced path fields) (cond (status == 206) (rest_use k fields) refuses) (replaced_fills path fields)
    (pick (status == 206) (rest_use k fields) refuses (rest_fills k fields fit) tt)
use_fills path (same k) status fields fit =
    pick (status == 200) (replaced path fields) (cond (status == 304) keeps refuses) (replaced_fills path fields) (pick (status == 304) keeps refuses tt tt)

-- ---- a file that comes

came_whole : (w : World) (path : Names) (f : Kept) (n : ℕ) (came : List ℕ) → f.path ≡ path → IsOfWorld w (grown f n came) → length f.bytes + n ≡ f.len → n ≤ length came → IsAllOf w path (grown f n came)
came_whole w path f n came named of fills enough =
    whole_of w path (grown f n came) of.row named (subst (λ p. IsFileAt w p of.row) named of.at) of.tag of.front
    (length-append f.bytes (take n came) ∙ ap (λ k. length f.bytes + k) (length-take-le n came enough) ∙ fills)

abbrev GivesAt : Names → Use → Type 0
GivesAt path (gives f n) = f.path ≡ path
GivesAt path keeps = Unit {0}
GivesAt path refuses = Unit {0}
GivesAt path spoils = Unit {0}

abbrev NamedAt : Names → Awaits → Type 0
NamedAt path whole = Unit {0}
NamedAt path (rest k) = k.path ≡ path
NamedAt path (same k) = Unit {0}

named_at : (w : World) (path : Names) (o : Option Kept) → IfSome o (IsGood w path) → NamedAt path (awaits o)
named_at w path None good = tt
named_at w path (Some k) good = by (length k.tag == 0) (length k.bytes == k.len) (length k.bytes == 0)
  where
    by : (a b c : Bool) → NamedAt path (cond a whole (cond b (same k) (cond c whole (rest k))))
    by true b c = tt
    by false true c = tt
    by false false true = tt
    by false false false = good.path

choose : (path : Names) (b : Bool) (x y : Use) → GivesAt path x → GivesAt path y → GivesAt path (cond b x y)
choose path true x y p q = p
choose path false x y p q = q

replaced_at : (path : Names) (fields : List Field) → GivesAt path (replaced path fields)
replaced_at path fields = by (number_said (value_of (codes "content-length") fields))
  where
    by : (o : Option ℕ) → GivesAt path (new_file path fields o)
    by None = tt
    by (Some n) = refl

-- the file that an answer gives has the path that was asked
gives_at : (path : Names) (a : Awaits) (status : ℕ) (fields : List Field) → NamedAt path a → GivesAt path (use_of path a status fields)
gives_at path whole status fields named = choose path (status == 200) (replaced path fields) refuses (replaced_at path fields) tt
gives_at path (rest k) status fields named =
    choose path (status == 200) (replaced path fields) (cond (status == 206) (rest_use k fields) refuses) (replaced_at path fields)
    (choose path (status == 206) (rest_use k fields) refuses (choose path (is_rest_of k fields) (gives k (k.len - length k.bytes)) spoils named tt) tt)
gives_at path (same k) status fields named =
    choose path (status == 200) (replaced path fields) (cond (status == 304) keeps refuses) (replaced_at path fields) (choose path (status == 304) keeps refuses tt tt)

-- ---- a file that is kept

replaced_isnt : (path : Names) (fields : List Field) → replaced path fields ≡ keeps → ⊥
replaced_isnt path fields e = by (number_said (value_of (codes "content-length") fields)) e
  where
    by : (o : Option ℕ) → new_file path fields o ≡ keeps → ⊥
    by None e = cc
    by (Some n) e = cc

keeps_same : (path : Names) (a : Awaits) (status : ℕ) (fields : List Field) → use_of path a status fields ≡ keeps → (k : Kept) × (a ≡ same k) × (status ≡ 304)
keeps_same path whole status fields e = by (status == 200) e
  where
    by : (t : Bool) → cond t (replaced path fields) refuses ≡ keeps → (k : Kept) × (whole ≡ same k) × (status ≡ 304)
    by true f = absurd (replaced_isnt path fields f)
    by false f = cc
keeps_same path (rest j) status fields e = by (status == 200) (status == 206) (is_rest_of j fields) e
  where
    by : (t u v : Bool) → cond t (replaced path fields) (cond u (cond v (gives j (j.len - length j.bytes)) spoils) refuses) ≡ keeps → (k : Kept) × (rest j ≡ same k) × (status ≡ 304)
    by true u v f = absurd (replaced_isnt path fields f)
    by false true true f = cc
    by false true false f = cc
    by false false v f = cc
keeps_same path (same j) status fields e = by (status == 200) (status == 304) refl e
  where
    by : (t u : Bool) → (status == 304) ≡ u → cond t (replaced path fields) (cond u keeps refuses) ≡ keeps → (k : Kept) × (same j ≡ same k) × (status ≡ 304)
    by true u is f = absurd (replaced_isnt path fields f)
    by false true is f = (j, refl, eqb-true status 304 is)
    by false false is f = cc

same_of : (o : Option Kept) (k : Kept) → awaits o ≡ same k → (o ≡ Some k) × (length k.bytes ≡ k.len)
same_of None k e = cc
same_of (Some f) k e = by (length f.tag == 0) (length f.bytes == f.len) (length f.bytes == 0) refl e
  where
    by : (a b c : Bool) → (length f.bytes == f.len) ≡ b → cond a whole (cond b (same f) (cond c whole (rest f))) ≡ same k → (◌≡◌ {A = Option Kept} (Some f) (Some k)) × (length k.bytes ≡ k.len)
    by true b c is h = cc
    by false true c is h = let here : f ≡ k = cc in (ap (λ x. Some x) here, subst (λ (x : Kept). length x.bytes ≡ x.len) here (eqb-true (length f.bytes) f.len is))
    by false false true is h = cc
    by false false false is h = cc

kept_whole : (w : World) (path : Names) (old : Option Kept) (rose : Type 0) (got : Got) (left : List ℕ) → IfSome old (IsGood w path) → RepliesOf w (file_path path) (asked_for (awaits old)) rose got left
    → use_of path (awaits old) got.status got.headers ≡ keeps → (k : Kept) × (old ≡ Some k) × IsAllOf w path k
kept_whole w path old rose got left good r e =
    let (k, is_same, status) = keeps_same path (awaits old) got.status got.headers e in
    let (here, all) = same_of old k is_same in
    let tagged : HasTag w path k = subst (GoodFor w path) is_same (good_for w path old good) in
    let s = served w r.fields path rose r.reply (ap (λ n. n == 200 || (n == 206 || n == 304)) (sym r.status ∙ status)) r.right in (
      k,
      here,
      sent k all tagged s (sym r.status ∙ status) (has_text (stood_in w s.row).tag tagged.tag) refl
          (same_sent r.fields (stood_in w s.row) k tagged.tag tagged.is tagged.text (subst (λ a. Carries (asked_for a) r.fields) is_same r.carries)),
    )
  where
    sent : (k : Kept) → length k.bytes ≡ k.len → (tagged : HasTag w path k) (s : Served w path r.fields r.reply) → r.reply.status ≡ 304 → (b : Bool) → has_text (stood_in w s.row).tag tagged.tag ≡ b
        → sent_of Get r.fields (stood_in w s.row) ≡ cond b (Alone 304) All → IsAllOf w path k
    sent k all tagged s status false has is = clash (sym status ∙ sent_as w path r.fields r.reply s All is)
      where
        clash : ◌≡◌ {A = ℕ} 304 200 → IsAllOf w path k
        clash f = absurd (true≢false (ap (λ (n : ℕ). n == 304) f))
    sent k all tagged s status true has is =
        let there = front_there w path s.row k tagged s.at has in whole_of w path k s.row tagged.good.path s.at there.0 there.1 all

-- ---- one visit

-- What a whole visit leaves of its file is the whole of what its path has.
pub visit_whole : (w : World) (path : Names) (old : Option Kept) (s t : PeerState) (visit : Visit) (worth : Use) → IfSome old (IsGood w path) → AreShort w path → IsToldOf w visit → Visited s visit t
    → IsFileVisit path old visit worth → IsWhole worth visit.came → (k : Kept) × (taken old worth visit.came ≡ Some k) × IsAllOf w path k
visit_whole w path old s t visit worth good short told visited file came = by worth file.judged came
  where
    by : (worth : Use) → use_of path (awaits old) visit.got.status visit.got.headers ≡ worth → IsWhole worth visit.came → (k : Kept) × (taken old worth visit.came ≡ Some k) × IsAllOf w path k
    by (gives f n) judged enough =
        let r = told_reply w s t visit told visited in
        let reply = subst (λ a. RepliesOf r.world (file_path path) a (Rose s.faults visited.at.faults) visit.got r.now.left) file.asked
        (subst (λ p. RepliesOf r.world p visit.asked (Rose s.faults visited.at.faults) visit.got r.now.left) file.path_is r.reply) in
        let (more, left, none) = came_left visited.at t r.now visit.came r.told visited.read in
        let goods = goods_there w r.world path old r.same good in
        let of = step r.world path old goods (Rose s.faults visited.at.faults) visit.got r.now.left visit.came more f n (short_there w r.world path r.same short) reply judged left in
        let fills : length f.bytes + n ≡ f.len = subst Fills judged (use_fills path (awaits old) visit.got.status visit.got.headers (awaits_fit w path old good)) in
        let named : f.path ≡ path = subst (GivesAt path) judged (gives_at path (awaits old) visit.got.status visit.got.headers (named_at w path old good)) in
        (grown f n visit.came, refl, all_here w r.world path (grown f n visit.came) r.same (came_whole r.world path f n visit.came named of fills enough))
    by keeps judged enough =
        let r = told_reply w s t visit told visited in
        let reply = subst (λ a. RepliesOf r.world (file_path path) a (Rose s.faults visited.at.faults) visit.got r.now.left) file.asked
        (subst (λ p. RepliesOf r.world p visit.asked (Rose s.faults visited.at.faults) visit.got r.now.left) file.path_is r.reply) in
        let (k, here, all) = kept_whole r.world path old (Rose s.faults visited.at.faults) visit.got r.now.left (goods_there w r.world path old r.same good) reply judged in
        (k, here, all_here w r.world path k r.same all)
    by refuses judged enough = absurd enough
    by spoils judged enough = absurd enough
