-- What a memory that is sound calls absent isn't there.
use Rattle.std.proofs.Common.{◌≡◌, ℕ, inl, inr, ◌||◌, Bool, true, false, cond, List, [], ◌∷◌, ◌++◌, Option, None, Some, Result, Ok, Err, refl, sym, ap, subst, ◌∙◌, append_assoc, append-nil}
use Rattle.std.specs.List.{cons_option, list_any}
use Rattle.std.specs.Str.{bytes_eq}
use Rattle.std.proofs.lemmas.Slice.Eq.{slice_eq-Decides}
use Rattle.std.specs.Cmp.{unsigned_Decides}
use Rattle.dav_core.specs.declared.handle.DiskError.{DiskError}
use Rattle.dav_core.specs.declared.handle.DiskError.TheVariants as disk
use Rattle.dav_core.specs.declared.time.FileTime.{FileTime}
use Rattle.dav_core.specs.declared.tree.Row.{Row}
use Rattle.dav_core.specs.declared.tree.Kind.{Kind}
use Rattle.dav_core.specs.declared.tree.Kind.TheVariants.{Dir, File, Link}
use Rattle.dav_core.specs.Path.{Names, same_names}
use Rattle.dav_core.specs.Tree.{look, look_from, row_at, standing, below, below_kind, is_dir}
use Rattle.dav_core.specs.World.{World}
use Rattle.dav_core.proofs.Plain.{names_same}
use Rattle.dav_core.proofs.LookLemmas.{standing_row}
use Rattle.dav_model.specs.Folds.{Name, dir_time, dir_time_of, has_name, is_dot, member_name, names_in}
use Rattle.dav_model.specs.Rules.{Rules, Knowledge, IsSound, MayDeny}
use Rattle.dav_model.specs.Finding.{Finding, MayFind, stood_at}
use Rattle.http.specs.Request.{body_of}
use Rattle.dav_io.specs.Counts.{Rose}
use Rattle.dav_model.specs.Head.{Reply}
use Rattle.dav_model.specs.Finding.{shown_in}
use Rattle.dav_model.specs.Due.{Query, IsRight}
use Rattle.std.specs.Prelude.{is_some}
use Rattle.dav_model.specs.Trail.{Point, Move, points_of}
use Rattle.dav_model.proofs.JoiningLemmas.{all_split, valid_back, learned_on}
use Rattle.dav_model.specs.Valid.{Valid, Twinless}
use Rattle.dav_model.specs.declared.step.Step.{Step}
use Rattle.dav_model.specs.declared.step.Step.TheVariants.{Request, Poll, Abandon, Purge, Turn}
use Rattle.dav_model.specs.declared.answer.Answer.{Answer}
use Rattle.dav_model.specs.declared.target.Target.{Target}
use Rattle.dav_model.specs.declared.target.Target.TheVariants.{At, Methods, Refused, Writes}
use Rattle.dav_io.specs.declared.failure.NoMemory.{NoMemory}
use Rattle.dav_io.proofs.ToldLemmas.{both_known}
use Rattle.dav_model.specs.Conditions.{Fields, fields_of}
use Rattle.dav_model.specs.Due.{query}
use Rattle.dav_model.specs.Trail.{target_of}
use Rattle.dav_model.specs.Written.{Makes}
use Rattle.dav_model.specs.Play.{Playing, Played, PlayedOn, Plays, Reads, Replies, RepliesByTree, Stage, Stands, StepByTree, EachByTree, MeetsNoLink}
use Rattle.dav_model.proofs.JoiningLemmas.{step_rules}
use Rattle.dav_model.proofs.Headline.{DeniesRightly, headline}

bytes_refl : (a : List _) → bytes_eq a a ≡ true
bytes_refl a = (slice_eq-Decides unsigned_Decides a a (bytes_eq a a) refl).1 refl

pub member_pushed : (dir : Names) (name : Name) → member_name dir (dir ++ name ∷ []) ≡ Some name
member_pushed [] name = refl
member_pushed (d ∷ dir) name = ap (λ b. cond b (member_name dir (dir ++ name ∷ [])) None) (bytes_refl d) ∙ member_pushed dir name

or_false : (a b : Bool) → (a || b) ≡ false → b ≡ false
or_false true b e = cc
or_false false b e = e

or_true : (a b : Bool) → a ≡ true → (a || b) ≡ false → ⊥
or_true true b e f = cc
or_true false b e f = cc

named_by : (name : Name) (r : Row) (b : Bool) (m : Option Name) (rest : List Name) (o : Option Row) → (b ≡ true → m ≡ Some name) → list_any (bytes_eq name) (cons_option m rest) ≡ false
    → (list_any (bytes_eq name) rest ≡ false → o ≡ None) → cond b (Some r) o ≡ None
named_by name r true m rest o is e go =
    absurd (or_true (bytes_eq name name) (list_any (bytes_eq name) rest) (bytes_refl name) (subst (λ z. list_any (bytes_eq name) (cons_option z rest) ≡ false) (is refl) e))
named_by name r false None rest o is e go = go e
named_by name r false (Some x) rest o is e go = go (or_false (bytes_eq name x) (list_any (bytes_eq name) rest) e)

-- a row of the path has its name in the directory
named : (dir : Names) (name : Name) (tree : List Row) → has_name tree dir name ≡ false → row_at tree (dir ++ name ∷ []) ≡ None
named dir name [] e = refl
named dir name (r ∷ tree) e = named_by name r (same_names (dir ++ name ∷ []) r.path) (member_name dir r.path) (names_in tree dir) (row_at tree (dir ++ name ∷ []))
    (λ f. ap (member_name dir) (sym (names_same (dir ++ name ∷ []) r.path f)) ∙ member_pushed dir name) e (named dir name tree)

below_dir : (row : Row) (found : Result Row DiskError) → is_dir row.kind ≡ true → below (Some row) found ≡ found
below_dir row found e = by_kind row.kind e
  where
    by_kind : (kind : Kind) → is_dir kind ≡ true → below_kind kind found ≡ found
    by_kind Dir e = refl
    by_kind File e = cc
    by_kind Link e = cc

found_below : (o : Option Row) (found next : Result Row DiskError) (row : Row) (e : DiskError) → (found ≡ Ok row → next ≡ Err e) → below o found ≡ Ok row → below o next ≡ Err e
found_below None found next row e h f = cc
found_below (Some r) found next row e h f = by_kind r.kind f
  where
    by_kind : (kind : Kind) → below_kind kind found ≡ Ok row → below_kind kind next ≡ Err e
    by_kind Dir g = h g
    by_kind File g = cc
    by_kind Link g = cc

-- Where a directory stands, and no row has the path of the name in it, nothing stands there.
missing : (tree : List Row) (at names : Names) (name : Name) (row : Row) → look_from tree at names ≡ Ok row → is_dir row.kind ≡ true → row_at tree ((at ++ names) ++ name ∷ []) ≡ None
    → look_from tree at (names ++ name ∷ []) ≡ Err disk.NotFound
missing tree at [] name row e dir none =
    ap (λ o. below o (standing (row_at tree (at ++ name ∷ [])))) (standing_row (row_at tree at) row e) ∙ below_dir row _ dir
    ∙ ap standing (subst (λ z. row_at tree (z ++ name ∷ []) ≡ None) (append-nil at) none)
missing tree at (n ∷ names) name row e dir none =
    found_below (row_at tree at) (look_from tree (at ++ n ∷ []) names) (look_from tree (at ++ n ∷ []) (names ++ name ∷ [])) row disk.NotFound
    (λ f. missing tree (at ++ n ∷ []) names name row f dir (subst (λ z. row_at tree (z ++ name ∷ []) ≡ None) (sym (append_assoc at (n ∷ []) names)) none)) e

kept_dir : (b : Bool) (time t : FileTime) → cond b (Some time) None ≡ Some t → b ≡ true
kept_dir true time t e = refl
kept_dir false time t e = cc

timed : (found : Result Row DiskError) (time : FileTime) → dir_time_of found ≡ Some time → (row : Row) × (found ≡ Ok row) × (is_dir row.kind ≡ true)
timed (Err e) time f = cc
timed (Ok row) time f = (row, refl, kept_dir (is_dir row.kind) row.time time f)

not_named : (k : Knowledge) (w : World) (dir : Names) (time : FileTime) (name : Name) → IsSound k w → dir_time w.tree dir ≡ Some time → is_dot name ≡ true → MayDeny k dir time name
    → has_name w.tree dir name ≡ false
not_named k w dir time name sound there dot (inl open_same) = let e : k.is_open dir time ≡ false = sound.closed dir time there in cc
not_named k w dir time name sound there dot (inr (has, known, lacks)) = sym (sound.names dir time has there known name dot) ∙ lacks

-- Where what the memory knows is sound, what it denies isn't there.
pub denies_rightly : (rules : Rules) (k : Knowledge) (w : World) (f : Finding) → MayFind rules k w.tree f → (rules.macos ≡ true → IsSound k w) → DeniesRightly w f
denies_rightly rules k w f may sound path slash e =
    let (macos, d) = may.denied path e in
    let (row, at, dir) = timed (look w.tree d.dir) d.time d.there in
    let none = named d.dir d.name w.tree (not_named k w d.dir d.time d.name (sound macos) d.there d.dot d.may) in
    let gone : look w.tree (d.dir ++ d.name ∷ []) ≡ Err disk.NotFound = missing w.tree [] d.dir d.name row at dir none in
    ap (stood_at slash w) (ap (look w.tree) d.is ∙ gone)

-- The headline, in a world of a valid run.
pub in_valid_run : (rules : Rules) (k : Knowledge) (s t : Point) (q : Query) (reply : Reply) (w : World) → s.told ≡ Some w → (rules.folds ≡ true → Twinless w) → (rules.macos ≡ true → IsSound k w)
    → MeetsNoLink rules w q → Reads rules k s t q reply → IsRight q (shown_in rules w) (Rose s.faults t.faults) reply
in_valid_run rules k s t q reply w told apart sound clear reads =
    headline rules k s t q reply w told apart clear reads (λ may. denies_rightly rules k w may.finding may.may sound)

replies_by_tree : (target : Target) (rules : Rules) (k : Knowledge) (s t : Point) (fields : Fields) (body : List ℕ) (reply : Reply) → ((w : World) → s.told ≡ Some w → rules.folds ≡ true → Twinless w)
    → ((w : World) → s.told ≡ Some w → rules.macos ≡ true → IsSound k w) → Makes target rules k fields body (Ok reply) s t → Replies target rules k s t fields reply
    → RepliesByTree target rules s t fields body reply
replies_by_tree (Refused status close) rules k s t fields body reply apart sound makes is = is
replies_by_tree Methods rules k s t fields body reply apart sound makes is = is
replies_by_tree (Writes method path) rules k s t fields body reply apart sound makes is = (
  is,
  both_known s.told t.told _ _
      (λ v w told made. made (record { apart = apart v told; sound = sound v told })) makes,
)
replies_by_tree (At method path) rules k s t fields body reply apart sound makes reads = λ w told clear.
    in_valid_run rules k s t (query rules.settings fields method path) reply w told (apart w told) (sound w told) clear reads

step_by_tree : (p : Playing) (s t : Point) (x : Step) (a : Answer) (q : Playing) → ((w : World) → s.told ≡ Some w → p.rules.folds ≡ true → Twinless w)
    → ((w : World) → s.told ≡ Some w → p.rules.macos ≡ true → IsSound p.knows w) → (st : Stands p s t x a q) → StepByTree p s t x a q st
step_by_tree p s t (Request request now) a q apart sound st = replies_by_tree (target_of p.rules request) p.rules p.knows s t (fields_of request) (body_of request) st.reply apart sound st.makes st.right
step_by_tree p s t (Poll body) a q apart sound st = tt
step_by_tree p s t (Abandon body) a q apart sound st = tt
step_by_tree p s t (Purge now) a q apart sound st = tt
step_by_tree p s t Turn a q apart sound st = tt

-- In a valid run each reply is that of the tree before its step.
pub each_by_tree : (p : Playing) (s : Point) (xs : List Move) (q : Playing) (plays : Plays p s xs q) → Valid p.rules p.knows (s ∷ points_of xs) → EachByTree p s xs q plays
each_by_tree p s [] q plays v = tt
each_by_tree p s (x ∷ xs) q (m, st, held, plays) v =
    let front : Plays p s (x ∷ []) m = (m, st, held, refl) in
    let told = all_split (λ (t : Point). is_some t.told ≡ true) (s ∷ (x.to ∷ [])) (points_of xs) v.told in
    let back : Valid p.rules m.knows (x.to ∷ points_of xs) = valid_back p.rules p.knows m.knows s (x ∷ []) xs v (learned_on p s (x ∷ []) m front told.0) in (
      step_by_tree p s x.to x.step x.answer m (λ w e f. v.apart f w (inl e)) (λ w e f. v.sound f w (inl e)) st,
      each_by_tree m x.to xs q plays (subst (λ r. Valid r m.knows (x.to ∷ points_of xs)) (sym (step_rules p s x.to x.step x.answer m st)) back),
    )

-- What was played along a trail stands to the clause of `play`.
pub played_on : (trail : List Move) (a : Stage) (steps : List Step) (old new : List Answer) (result : Result Unit NoMemory) (b : Stage)
    → Played trail a steps old new result b → PlayedOn a steps old new result b
played_on trail a steps old new result b played = record {
  trail = trail;
  played = played;
  headline = each_by_tree a.playing a.at trail played.player played.answered;
}
