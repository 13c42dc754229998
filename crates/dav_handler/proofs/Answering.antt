-- What a request finds, from what the calls below it answered.
use Rattle.std.proofs.Common.{◌≡◌, ◌<◌, ◌⊎◌, inl, inr, ℕ, Bool, true, false, List, Option, None, Some, Result, Ok, Err, refl, sym, ap, subst, ◌∙◌, arith}
use Rattle.std.specs.Prelude.{IfOk, is_some}
use Rattle.std.specs.List.{list_any}
use Rattle.std.specs.Option.{option_map}
use Rattle.dav_io.specs.declared.failure.NoMemory.{NoMemory}
use Rattle.dav_io.specs.declared.fields.Field.{Field}
use Rattle.dav_core.specs.declared.dav_error.DavError.{DavError}
use Rattle.dav_core.specs.declared.dav_error.DavError.TheVariants.{NoMemory as OutOfMemory}
use Rattle.dav_core.specs.declared.method.DavMethod.{DavMethod}
use Rattle.dav_core.specs.DavPath.{WebPath}
use Rattle.dav_core.specs.Disk.{DiskState, Live, TellsLive}
use Rattle.dav_core.specs.Statuses.{closes, lacks_memory, status_of}
use Rattle.dav_core.specs.Unchanged.{Keeps}
use Rattle.dav_core.specs.World.{World}
use Rattle.dav_memory.specs.Memory.{LearnsNothing, MemoryState}
use Rattle.dav_model.specs.declared.outcome.Outcome.{Outcome}
use Rattle.dav_model.specs.declared.settings.Settings.{Settings}
use Rattle.dav_model.specs.declared.target.Target.TheVariants.{At, Refused}
use Rattle.dav_model.specs.Calls.{AsksToFind, calls_to_open}
use Rattle.dav_model.specs.Conditions.{Fields}
use Rattle.dav_model.specs.Due.{query}
use Rattle.dav_model.specs.Head.{Reply, refusal}
use Rattle.dav_model.specs.Play.{Reads}
use Rattle.dav_local_laws.proofs.LocalLearns.{nothing_learned}
use Rattle.dav_model.specs.Rules.{Learns}
use Rattle.dav_model.specs.Bodies.{read_size_of}
use Rattle.dav_model.specs.Trail.{Leaves}
use Rattle.dav_model.proofs.JoiningLemmas.{learns_same, leaves_same}
use Rattle.dav_walks.proofs.calls.KeptOpen.{open_kept, open_same}
use Rattle.dav_store.specs.Standing.{Seen}
use Rattle.dav_store.specs.Leads.{LeadsOn}
use Rattle.dav_store.specs.View.{Listings, View}
use Rattle.dav_local.specs.declared.file.LocalFsFile.{LocalFsFile}
use Rattle.dav_local.specs.declared.ways.Ways.{Ways}
use Rattle.dav_local.specs.LocalFiles.{local_file}
use Rattle.dav_local.specs.Files.{seen_by}
use Rattle.dav_local.specs.Shown.{knowledge_of}
use Rattle.dav_local.specs.Ways.{rules_with}
use Rattle.dav_local.specs.Standing.{seen_in, seen_with}
use Rattle.dav_get.specs.declared.open_at.OpenAt.{OpenAt}
use Rattle.dav_get.specs.declared.part.BodyPart.{BodyPart}
use Rattle.dav_get.specs.Bodies.{IsHeld, left_of, is_slice, parts_of}
use Rattle.dav_get.specs.Lives.{HasMost, OpensOnly}
use Rattle.dav_get.specs.Right.{IsOfNumber, number_told, or_zero, reply_at}
use Rattle.dav_get.specs.Table.{Given}
use Rattle.dav_handler.specs.By.{By, Over}
use Rattle.dav_config.specs.Finding.{IsAlone}
use Rattle.dav_handler.specs.Found.{Answers, Finds, Found, Gives, HoldsOnly, IsRefusedBy, Said, Stays, reply_of}
use Rattle.dav_handler.specs.Held.{Body, IsOpen, handle_of, number_in, number_seen, parts_in}
use Rattle.dav_handler.proofs.Frames.{no_slices, texts_any}

-- a refusal is answered as it is
reply_refused : (t : DiskState) (fields : Fields) (status : ℕ) (close : Bool) (found : Found) → IsAlone (refusal fields status close) found → reply_of t found ≡ refusal fields status close
reply_refused t fields status close found is = rw (is.status, is.fields, is.body) refl

-- nothing was asked
pub stays_same : (o : Over) → Stays o o
stays_same o = record { rules = refl; learns = learns_same o.disk.told o.by.knows o.by.knows refl }

-- Calls leave how paths are found, and teach the memory what the told world has.
pub stays_read : (settings : Settings) (v w : Ways) (m n : MemoryState) (s t : DiskState) → w ≡ v → Learns s.told (knowledge_of m) (knowledge_of n)
    → Stays (record { by = record { rules = rules_with settings v; knows = knowledge_of m }; disk = s }) (record { by = record { rules = rules_with settings w; knows = knowledge_of n }; disk = t })
stays_read settings v w m n s t same learns = record {
  rules = ap (rules_with settings) same;
  learns = learns;
}

-- the same of calls that teach it nothing
pub stays_write : (settings : Settings) (v w : Ways) (m n : MemoryState) (s t : DiskState) → w ≡ v → LearnsNothing m n
    → Stays (record { by = record { rules = rules_with settings v; knows = knowledge_of m }; disk = s }) (record { by = record { rules = rules_with settings w; knows = knowledge_of n }; disk = t })
stays_write settings v w m n s t same learns = stays_read settings v w m n s t same (nothing_learned s.told m n learns)

-- What the gates refuse.
pub gate_answers : (o : Over) (said : Said) (status : ℕ) (close : Bool) (result : Result Found NoMemory) → IfOk result (IsAlone (refusal said.fields status close))
    → Finds o said (Refused status close) result o
gate_answers o said status close (Err x) is = record { stays = stays_same o; keeps = open_same o.disk; makes = λ e. leaves_same o.disk; asks = refl }
gate_answers o said status close (Ok found) is = record {
  stays = stays_same o;
  holds = subst (λ b. HoldsOnly (read_size_of o.by.rules.settings.read_buf_size) o.disk b o.disk) (sym is.body) (open_same o.disk);
  makes = leaves_same o.disk;
  right = reply_refused o.disk said.fields status close found is;
  asks = refl;
}

-- ---- what is told of a body's file

mapped_some : {A B : Type 0} (f : A → B) (o : Option A) → is_some o ≡ true → is_some (option_map f o) ≡ true
mapped_some f None e = cc
mapped_some f (Some a) e = refl

seen_some : (told : Option World) (live : Option Live) (h : ℕ) (w : World) (l : Live) → told ≡ Some w → live ≡ Some l → is_some (w.opens h) ≡ true → is_some (seen_with told live h) ≡ true
seen_some told live h w l e f some = rw (e, f) (mapped_some (seen_in w l.kind) (w.opens h) some)

-- A live file is told where the world is.
seen_live : (t : DiskState) (file : LocalFsFile) (l : Live) → TellsLive t → t.live (handle_of file) ≡ Some l → (w : World) → t.told ≡ Some w → is_some (seen_by file t) ≡ true
seen_live t file l tells live w told =
    seen_some t.told (t.live (handle_of file)) (handle_of file) w l told live (tells.opens w told (handle_of file) ∙ ap is_some live)

body_told : (s t : DiskState) (file : Option (OpenAt LocalFsFile)) → TellsLive t → OpensOnly handle_of s file t → (w : World) (h : OpenAt LocalFsFile) → t.told ≡ Some w → file ≡ Some h → is_some (seen_by h.file t) ≡ true
body_told s t None tells opens w h told e = cc
body_told s t (Some g) tells (keeps, free, live) w h told e =
    let same : g ≡ h = cc in subst (λ (x : OpenAt LocalFsFile). is_some (seen_by x.file t) ≡ true) same (seen_live t g.file _ tells live w told)

-- the number of a body's file is the one that was heard
seen_number : (o : Option Seen) → number_seen o ≡ or_zero (number_told o)
seen_number None = refl
seen_number (Some f) = refl

parts_here : (t : DiskState) (file : Option (OpenAt LocalFsFile)) (left : List BodyPart) (number : Option ℕ) → (list_any is_slice left ≡ true → is_some file ≡ true)
    → ((h : OpenAt LocalFsFile) → file ≡ Some h → number_told (seen_by h.file t) ≡ number) → parts_of (number_in t file) left ≡ parts_of (or_zero number) left
parts_here t None left number needs is = texts_any 0 (or_zero number) left (no_slices (list_any is_slice left) needs)
parts_here t (Some h) left number needs is = ap (λ n. parts_of n left) (seen_number (seen_by h.file t) ∙ ap or_zero (is h refl))

-- A body that is given has these parts left, and none where it isn't.
given_parts : (s t : DiskState) (body : Body) (given : Option Body) → Gives s body given t → parts_in t given ≡ parts_of (number_in t body.file) (left_of body)
given_parts s t body None (same, none, file) = sym (ap (parts_of (number_in t body.file)) none)
given_parts s t body (Some b) (same, is) = ap (λ (x : Body). parts_of (number_in t x.file) (left_of x)) is

given_state : (s t : DiskState) (body : Body) (given : Option Body) → Gives s body given t → t ≡ s
given_state s t body None gives = gives.0
given_state s t body (Some b) gives = gives.0

lacks_none : (e : DavError) → lacks_memory e ≡ false → e ≡ OutOfMemory → ⊥
lacks_none e memory is = let f : true ≡ false = sym (ap lacks_memory is) ∙ memory in cc

-- ---- a GET or HEAD

module _ {S C : Type 0} (view : View S C LocalFsFile) (seen : view.file.seen ≡ seen_by) (s m : S) where
  -- what is open for the answer
  holds_given : (most : ℕ) (r : Outcome × Body) (given : Option Body) → Gives (view.state m) r.1 given (view.state m) → IsHeld local_file (view.state m) r.1
      → OpensOnly handle_of (view.state s) r.1.file (view.state m) → HasMost most (Ok r) → TellsLive (view.state m) → HoldsOnly most (view.state s) given (view.state m)
  holds_given most r None (same, none, file) held opens size tells =
      open_kept (view.state s) (view.state m) (subst (λ f. OpensOnly handle_of (view.state s) f (view.state m)) file opens)
  holds_given most r (Some b) (same, is) held opens size tells =
      subst (λ (x : Body). OpensOnly handle_of (view.state s) x.file (view.state m) × IsOpen most (view.state m) x) (sym is)
      (opens, record { held = held; size = size; told = body_told (view.state s) (view.state m) r.1.file tells opens })

  -- the reply is what was given, by the number of its file
  same_given : (fields : Fields) (r : Outcome × Body) (found : Found) → found.outcome ≡ r.0 → Gives (view.state m) r.1 found.body (view.state m) → IsHeld local_file (view.state m) r.1
      → (number : Option ℕ) → IsOfNumber view number m (Ok r) → reply_at {F = LocalFsFile} fields (or_zero number) (Ok r) ≡ reply_of (view.state m) found
  same_given fields r found outcome gives held number file =
      let here : parts_of (number_in (view.state m) r.1.file) (left_of r.1) ≡ parts_of (or_zero number) (left_of r.1) =
      parts_here (view.state m) r.1.file (left_of r.1) number held.needs
      (λ h e. subst (λ (f : LocalFsFile → DiskState → Option Seen). number_told (f h.file (view.state m)) ≡ number) seen (file h e)) in
      let parts : parts_in (view.state m) found.body ≡ parts_of (or_zero number) (left_of r.1) = given_parts (view.state m) (view.state m) r.1 found.body gives ∙ here in
      rw (outcome, parts) refl

-- An answer isn't want of memory.
pub given_heard : {X : Type 0} (r : Outcome × Body) → (◌≡◌ {A = Given LocalFsFile} (Ok r) (Err OutOfMemory)) ⊎ X → X
given_heard r (inr x) = x
given_heard r (inl none) = let no : Ok r ≡ Err OutOfMemory = none in cc

-- Nor is an error that isn't.
pub unless_memory : {X : Type 0} (e : DavError) → (e ≡ OutOfMemory → ⊥) → (◌≡◌ {A = Given LocalFsFile} (Err e) (Err OutOfMemory)) ⊎ X → X
unless_memory e had (inr x) = x
unless_memory e had (inl none) = absurd (had (let same : e ≡ OutOfMemory = cc in same))

-- A file that was opened to be read leaves the tree and the bytes.
opens_world : (s t : DiskState) (file : Option (OpenAt LocalFsFile)) → OpensOnly handle_of s file t → Leaves s t
opens_world s t None keeps = keeps.world
opens_world s t (Some h) opens = opens.0.world

-- an opening is a call
pub some_to_open : (held : Bool) → 0 < calls_to_open held
some_to_open true = omega arith
some_to_open false = omega arith

-- how often a GET or HEAD asks
abbrev AsksSo : By → Said → DavMethod → WebPath → ℕ → List Field → DiskState → DiskState → Type 0
AsksSo by said method path status fields s t = AsksToFind by.rules by.knows (query by.rules.settings said.fields method path) status fields s t

-- What calls that write nothing led to, of which the store's law says what they teach.
module _ {S C L E : Type 0} (view : View S C LocalFsFile) (lists : Listings S C L E) (c : C) (a b : By) (s m : S) (leads : LeadsOn view lists c s m)
    (teaches : LeadsOn view lists c s m → Stays (record { by = a; disk = view.state s }) (record { by = b; disk = view.state m }))
    (seen : view.file.seen ≡ seen_by) (method : DavMethod) (path : WebPath) (said : Said) where
  abbrev before : Over
  before = record { by = a; disk = view.state s }

  -- An answer with a status and fields, and a body or none.
  pub given_answers : TellsLive (view.state m) → (r : Outcome × Body) (t : DiskState) (found : Found)
      → ((reply : Reply) → ((number : Option ℕ) → IsOfNumber view number m (Ok r) → reply_at {F = LocalFsFile} said.fields (or_zero number) (Ok r) ≡ reply)
      → Reads a.rules a.knows (view.state s) (view.state m) (query a.rules.settings said.fields method path) reply)
      → AsksSo a said method path r.0.status r.0.fields (view.state s) (view.state m)
      → IsHeld local_file (view.state m) r.1 → OpensOnly handle_of (view.state s) r.1.file (view.state m) → HasMost (read_size_of a.rules.settings.read_buf_size) (Ok r)
      → found.outcome ≡ r.0 → Gives (view.state m) r.1 found.body t → Answers before said (At method path) found (record { by = b; disk = t })
  given_answers tells r t found reads asks held opens size outcome gives =
      let same = given_state (view.state m) t r.1 found.body gives in
      let gives_here : Gives (view.state m) r.1 found.body (view.state m) = subst (Gives (view.state m) r.1 found.body) same gives in
      subst (λ x. Answers before said (At method path) found (record { by = b; disk = x })) (sym same) (record {
        stays = teaches leads;
        makes = opens_world (view.state s) (view.state m) r.1.file opens;
        holds = holds_given view seen s m (read_size_of a.rules.settings.read_buf_size) r found.body gives_here held opens size tells;
        right = reads (reply_of (view.state m) found) (same_given view seen s m said.fields r found outcome gives_here held);
        asks = subst (λ (o : Outcome). AsksSo a said method path o.status o.fields (view.state s) (view.state m)) (sym outcome) asks;
      })

  -- An answer that is a refusal.
  pub refused_answers : (e : DavError) (result : Result Found NoMemory) → Keeps (view.state s) (view.state m)
      → ((reply : Reply) → (e ≡ OutOfMemory → ⊥) → ((number : Option ℕ) → IsOfNumber view number m (Err e) → reply_at {F = LocalFsFile} said.fields (or_zero number) (Err e) ≡ reply)
      → Reads a.rules a.knows (view.state s) (view.state m) (query a.rules.settings said.fields method path) reply)
      → ((e ≡ OutOfMemory → ⊥) → AsksSo a said method path (status_of e) (refusal said.fields (status_of e) (closes e)).fields (view.state s) (view.state m))
      → IfOk result (IsRefusedBy said.fields e) → Finds before said (At method path) result (record { by = b; disk = view.state m })
  refused_answers e (Err x) keeps reads asks is = record { stays = teaches leads; keeps = open_kept (view.state s) (view.state m) keeps; makes = λ x. keeps.world; asks = tt }
  refused_answers e (Ok found) keeps reads asks is =
      let same : refusal said.fields (status_of e) (closes e) ≡ reply_of (view.state m) found = sym (reply_refused (view.state m) said.fields (status_of e) (closes e) found is.refused) in
      let had = lacks_none e is.memory in
      record {
        stays = teaches leads;
        holds = subst (λ b. HoldsOnly (read_size_of a.rules.settings.read_buf_size) (view.state s) b (view.state m)) (sym is.refused.body) (open_kept (view.state s) (view.state m) keeps);
        makes = keeps.world;
        right = reads (reply_of (view.state m) found) had (λ number file. same);
        asks = subst (λ n. AsksSo a said method path n found.outcome.fields (view.state s) (view.state m)) (sym is.refused.status)
            (subst (λ fs. AsksSo a said method path (status_of e) fs (view.state s) (view.state m)) (sym is.refused.fields) (asks had));
      }
