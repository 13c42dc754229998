-- Where a whole request came and nothing was written, more isn't asked for.
use Rattle.std.proofs.Common.{◌≡◌, ◌++◌, ℕ, List, [], ◌∷◌, Some, sym, ap, subst, ◌∙◌, append-nil}
use Rattle.std.proofs.lemmas.List.{append_cancel_left, append_cancel_right}
use Rattle.dav_io.proofs.ToldLemmas.{told_before}
use Rattle.dav_wire.specs.Messages.{Message, IsMessage, Messages, HasNoMessage, open_body}
use Rattle.dav_serving.specs.Exchange.{Exchange}
use Rattle.dav_serving.specs.Serving.{Setup, Alike, wires, IsWanting, wanting_head, wanting_body, ServedSoFar, Owes}
use Rattle.dav_serving.specs.Stages.{Outside}
use Rattle.dav_wire.proofs.MessageLemmas.{unfinished_message_none}

wires_some : (x : Exchange) (xs : List Exchange) → [] ≡ wires (x ∷ xs) → ⊥
wires_some x xs e = cc

-- where more bytes are wanted, no request stands
wanting_none : (held : List ℕ) → IsWanting held → HasNoMessage held
wanting_none held (wanting_head short none may) message rest is = none message.head is.behind is.request.reads
wanting_none held (wanting_body request behind stands unfinished) message rest is =
    unfinished_message_none held (open_body request behind stands unfinished) message rest is

owed : (setup : Setup) (messages : List Message) (xs : List Exchange) (taken held left written : List ℕ) (message : Message) (rest : List ℕ) → Alike setup messages xs
    → IsMessage taken message rest → HasNoMessage held → Messages (taken ++ left) messages (held ++ left) → written ≡ written ++ wires xs → ⊥
owed setup [] xs taken held left written message rest alike request none requests e =
    none message rest (subst (λ z. IsMessage z message rest) (sym (append_cancel_right held taken left requests)) request)
owed setup (m ∷ ms) [] taken held left written message rest alike request none requests e = absurd alike
owed setup (m ∷ ms) (x ∷ xs) taken held left written message rest alike request none requests e =
    wires_some x xs (append_cancel_left written [] (wires (x ∷ xs)) (append-nil written ∙ e))

some_is : (a b : List ℕ) → Some a ≡ Some b → a ≡ b
some_is a b e = cc

pub not_so_far : (setup : Setup) (before now : Outside) → Owes before now → ServedSoFar setup before now → ⊥
not_so_far setup before now o v =
    let r = told_before before.source.bytes now.source.bytes (λ x y. Messages x v.serving.messages (v.held ++ y)) o.left v.serving.requests o.stands in
    let k = told_before before.sink.bytes now.sink.bytes (λ x y. y ≡ x ++ wires v.exchanges) o.written v.sent.told o.is in
    owed setup v.serving.messages v.exchanges o.taken v.held o.left o.written o.message o.rest v.serving.alike o.request (wanting_none v.held v.wanting)
    (subst (λ (z : List ℕ). Messages z v.serving.messages (v.held ++ o.left)) (some_is _ _ (sym r.1 ∙ o.first)) r.2)
    (k.2 ∙ ap (λ (z : List ℕ). z ++ wires v.exchanges) (some_is _ _ (sym k.1 ∙ o.was)))
