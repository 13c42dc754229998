-- What is sent of a file by its row of the table is what the definition says.
use Rattle.std.proofs.Common.{◌≡◌, ◌≤◌, ℕ, true, List, [], ◌∷◌, Option, None, Some, Result, Ok, Err, refl, sym, ap, subst, ◌∙◌, arith, ◌⊎◌, inl, inr}
use Rattle.dav_io.specs.Counts.{Rose}
use Rattle.dav_io.specs.Told.{Both}
use Rattle.dav_core.specs.declared.error.FsError.{FsError}
use Rattle.dav_core.specs.Disk.{can_read}
use Rattle.dav_core.specs.Info.{Info}
use Rattle.dav_store.specs.Files.{SeeksIn}
use Rattle.dav_store.specs.Standing.{Seen}
use Rattle.dav_store.specs.View.{View, seen_in, Seeks}
use Rattle.dav_model.specs.declared.outcome.Outcome.{Outcome}
use Rattle.dav_model.specs.declared.sent.Sent.{Sent}
use Rattle.dav_model.specs.declared.sent.Sent.TheVariants.{All, Alone, Unsatisfied, One, Several}
use Rattle.dav_model.specs.Due.{Query}
use Rattle.dav_model.specs.Head.{IsSent, is_get, sent_parts, sent_status}
use Rattle.dav_get.specs.declared.body.GetBody.{GetBody}
use Rattle.dav_get.specs.declared.open_at.OpenAt.{OpenAt}
use Rattle.dav_get.specs.declared.part.BodyPart.{BodyPart}
use Rattle.dav_get.specs.Bodies.{left_of, parts_of}
use Rattle.dav_get.specs.Heard.{stood_heard}
use Rattle.dav_get.specs.Right.{IsOfNumber, number_told, or_zero, reply_at}
use Rattle.dav_get.specs.Table.{Answer, Holds, IfMoved, Sends, SendsFrom, first_place, sent_after, sent_for, type_of}
use Rattle.dav_io.proofs.Rising.{rose_after}

pub some_start : (sent : Sent) (start : ℕ) → first_place sent ≡ Some start → sent_status sent ≡ 206
some_start All start e = cc
some_start (Alone status) start e = cc
some_start Unsatisfied start e = cc
some_start (One part) start e = refl
some_start (Several parts) start e = refl

-- A move of a file leaves its number.
number_moved : (start : ℕ) (sought : Result ℕ FsError) (before after : Option Seen) → Both before after (SeeksIn start sought)
    → number_told after ≡ number_told before
number_moved start sought None None both = refl
number_moved start sought None (Some g) both = absurd both
number_moved start sought (Some f) None both = absurd both
number_moved start (Ok n) (Some f) (Some g) both = ap (λ (x : Seen). Some x.stands.number) both
number_moved start (Err e) (Some f) (Some g) both = ap (λ (x : Seen). Some x.stands.number) both

module _ {S C F : Type 0} (view : View S C F) where
  held_left : (parts : List BodyPart) (held : OpenAt F) (s : S) (body : GetBody F) (t : S) → Holds view parts held s body t → left_of body ≡ parts
  held_left [] held s body t (closed, (left, none)) = left
  held_left (part ∷ parts) held s body t (same, left, some) = left

  held_counts : (parts : List BodyPart) (held : OpenAt F) (s : S) (body : GetBody F) (t : S) → Holds view parts held s body t
      → (view.state s).faults ≤ (view.state t).faults
  held_counts [] held s body t (closed, (left, none)) = let same = closed.done.counts in omega arith
  held_counts (part ∷ parts) held s body t (same, left, some) = rw same (omega arith)

  held_number : (parts : List BodyPart) (held : OpenAt F) (s : S) (body : GetBody F) (t : S) (outcome : Outcome) → Holds view parts held s body t
      → IsOfNumber view (number_told (seen_in view s held.file)) t (Ok (outcome, body))
  held_number [] held s body t outcome (closed, (left, none)) h some = cc
  held_number (part ∷ parts) held s body t outcome (same, left, some) h is =
      let e : held ≡ h = (let f : Some held ≡ Some h = sym some ∙ is in cc) in
      λ i. number_told (seen_in view (same i) (sym e i).file)

  module _ (q : Query) (info : Info) where
    -- A row that sends is right, with slices of any number.
    pub sends_right : (number : Option ℕ) (sent : Sent) (held : OpenAt F) (s : S) (answer : Answer F) (t : S) → Sends view q info sent held s answer t
        → IsSent q.method q.path (stood_heard number info None) sent (reply_at {F = F} q.fields (or_zero number) (Ok answer))
    sends_right number sent held s answer t row =
        let (date, dated, is) = row.outcome_is in
        let parts : parts_of (or_zero number) (left_of answer.1) ≡ sent_parts (is_get q.method) (type_of q.path) (or_zero number) info.len sent =
        ap (parts_of (or_zero number)) (held_left row.parts held s answer.1 t row.holds) ∙ row.are (or_zero number) in (
          date,
          dated,
          (λ i. record { status = ap (λ (o : Outcome). o.status) is i; fields = ap (λ (o : Outcome). o.fields) is i; parts = parts i }),
        )

    sends_number : (number : Option ℕ) (sent : Sent) (held : OpenAt F) (s : S) (answer : Answer F) (t : S) → number_told (seen_in view s held.file) ≡ number
        → Sends view q info sent held s answer t → IsOfNumber view number t (Ok answer)
    sends_number number sent held s answer t told row =
        subst (λ k. IsOfNumber view k t (Ok answer)) told (held_number row.parts held s answer.1 t answer.0 row.holds)

    sends_counts : (sent : Sent) (held : OpenAt F) (s : S) (answer : Answer F) (t : S) → Sends view q info sent held s answer t
        → (view.state s).faults ≤ (view.state t).faults
    sends_counts sent held s answer t row = held_counts row.parts held s answer.1 t row.holds

    -- what is right of what is sent of a file of this number
    pub record Right (number : Option ℕ) (s : S) (answer : Answer F) (t : S) : Type 0 where
      pub right : IsSent q.method q.path (stood_heard number info None) (sent_for q info) (reply_at {F = F} q.fields (or_zero number) (Ok answer))
          ⊎ ((sent_status (sent_for q info) ≡ 206) × IsSent q.method q.path (stood_heard number info None) Unsatisfied (reply_at {F = F} q.fields (or_zero number) (Ok answer))
          × Rose (view.state s).faults (view.state t).faults)
      pub counts : (view.state s).faults ≤ (view.state t).faults
      pub file : IsOfNumber view number t (Ok answer)

    -- where the file is moved to the first part
    sought_right : (sought : Result ℕ FsError) (number : Option ℕ) (file g : F) (start : ℕ) (s m : S) (answer : Answer F) (t : S)
        → first_place (sent_for q info) ≡ Some start → number_told (seen_in view s file) ≡ number → can_read ((view.state s).live (view.file.handle file)) ≡ true
        → Seeks view s file start sought m g → Sends view q info (sent_after sought (sent_for q info)) (record { file = g; place = start }) m answer t
        → Right number s answer t
    sought_right (Ok n) number file g start s m answer t first told live seeks row =
        let at = number_moved start (Ok n) (seen_in view s file) (seen_in view m g) seeks.done.told ∙ told in
        let before = seeks.done.keeps.counts in
        let after = sends_counts (sent_for q info) (record { file = g; place = start }) m answer t row in record {
          right = inl (sends_right number (sent_for q info) (record { file = g; place = start }) m answer t row);
          counts = omega arith;
          file = sends_number number (sent_for q info) (record { file = g; place = start }) m answer t at row;
        }
    sought_right (Err e) number file g start s m answer t first told live seeks row =
        let failed : Result ℕ FsError = Err e in
        let at = number_moved start failed (seen_in view s file) (seen_in view m g) seeks.done.told ∙ told in
        let refused = seeks.done.refused live in
        let before = seeks.done.keeps.counts in
        let after = sends_counts Unsatisfied (record { file = g; place = start }) m answer t row in record {
          right = inr (some_start (sent_for q info) start first, sends_right number Unsatisfied (record { file = g; place = start }) m answer t row, rose_after _ _ _ refused.1 after);
          counts = omega arith;
          file = sends_number number Unsatisfied (record { file = g; place = start }) m answer t at row;
        }

    moved_right : (place : Option ℕ) (number : Option ℕ) (file : F) (s : S) (answer : Answer F) (t : S)
        → first_place (sent_for q info) ≡ place → number_told (seen_in view s file) ≡ number → can_read ((view.state s).live (view.file.handle file)) ≡ true
        → IfMoved view place file s (λ sought held m. Sends view q info (sent_after sought (sent_for q info)) held m answer t) → Right number s answer t
    moved_right None number file s answer t first told live row = record {
      right = inl (sends_right number (sent_for q info) (record { file = file; place = 0 }) s answer t row);
      counts = sends_counts (sent_for q info) (record { file = file; place = 0 }) s answer t row;
      file = sends_number number (sent_for q info) (record { file = file; place = 0 }) s answer t told row;
    }
    moved_right (Some start) number file s answer t first told live (sought, g, m, seeks, row) =
        sought_right sought number file g start s m answer t first told live seeks row

    -- A row that sends of the file what is called for is right, or the file couldn't be placed.
    pub placed_right : (number : Option ℕ) (file : F) (s : S) (answer : Answer F) (t : S) → number_told (seen_in view s file) ≡ number
        → can_read ((view.state s).live (view.file.handle file)) ≡ true → SendsFrom view q info (sent_for q info) file s answer t → Right number s answer t
    placed_right number file s answer t told live row = moved_right (first_place (sent_for q info)) number file s answer t refl told live row
