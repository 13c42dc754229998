-- A told peer answers a directory's request with its page.
use Rattle.std.proofs.Common.{◌≡◌, inl, inr, ◌&&◌, ◌++◌, ℕ, List, [], ◌∷◌, true, cond, map, Ok, Err, refl, ap, subst, ◌∙◌}
use Rattle.std.specs.List.{flat_map}
use Rattle.dav_core.specs.declared.error.FsError.TheVariants.{Forbidden}
use Rattle.dav_core.specs.declared.method.DavMethod.TheVariants.{Get}
use Rattle.dav_core.specs.declared.tree.Kind.{Kind}
use Rattle.dav_core.specs.declared.tree.Kind.TheVariants.{Dir}
use Rattle.dav_core.specs.declared.tree.Row.{Row}
use Rattle.dav_core.specs.Listing.{listable}
use Rattle.dav_core.specs.Members.{members}
use Rattle.dav_core.specs.Path.{Names}
use Rattle.dav_core.specs.Tree.{below_kind, is_file, look}
use Rattle.dav_core.specs.World.{World}
use Rattle.dav_page.specs.Index.{IsIndex}
use Rattle.dav_page.specs.Listed.{AreRows}
use Rattle.dav_model.specs.Bodies.{text}
use Rattle.dav_model.specs.Conditions.{Fields}
use Rattle.dav_model.specs.Due.{Due, IsHead, IsRight, Query, due, due_kind, due_listed, due_looked, page, query}
use Rattle.dav_model.specs.Finding.{members_or, resolved, shown_in, stood_at}
use Rattle.dav_model.specs.Head.{Reply, stood_in}
use Rattle.dav_model.specs.Indexes.{IsIndexReply}
use Rattle.dav_model.specs.Shown.{Shown}
use Rattle.dav_model.proofs.PlainWalks.{plain_resolved}
use Rattle.dav_fetch.specs.Asking.{dir_path}
use Rattle.dav_fetch.specs.Peer.{body_in, peer_rules, peer_settings}

abbrev asked_page : Fields → Names → Query
asked_page fields names = query peer_settings fields Get (dir_path names)

abbrev place : World → Names → Names
place w names = resolved peer_rules w.tree names

abbrev looked_dir : World → Fields → Names → Row → Kind → Due
looked_dir w fields names row kind = due_looked (shown_in peer_rules w) (asked_page fields names) (cond (true && is_file kind) (Err Forbidden) (Ok (stood_in w row)))

page_due : (w : World) (fields : Fields) (names : Names) (row : Row) → look w.tree names ≡ Ok row → row.kind ≡ Dir
    → due (shown_in peer_rules w) (asked_page fields names) ≡ page (dir_path names) (members w names)
page_due w fields names row there kind =
    ap (λ f. due_looked (shown_in peer_rules w) (asked_page fields names) (stood_at true w f)) is
    ∙ ap (looked_dir w fields names row) kind ∙ ap (due_kind (shown_in peer_rules w) (asked_page fields names)) kind
    ∙ ap (λ f. due_listed (dir_path names) (members_or w (place w names) (listable f))) is
    ∙ ap (λ x. due_listed (dir_path names) (members_or w (place w names) (below_kind x (Ok row)))) kind
    ∙ ap (λ n. page (dir_path names) (members w n)) (plain_resolved peer_settings w.tree names)
  where
    is : look w.tree (place w names) ≡ Ok row
    is = ap (look w.tree) (plain_resolved peer_settings w.tree names) ∙ there

-- where the count didn't rise, the one right answer was given
pub is_head : (q : Query) (shown : Shown) (rose : Type 0) (reply : Reply) → (rose → ⊥) → IsRight q shown rose reply → IsHead q (due shown q) reply
is_head q shown rose reply none (inl head) = head
is_head q shown rose reply none (inr (spoiled, r)) = absurd (none r)

-- A page is sent, whose texts are the body.
pub record IsPageSent (w : World) (dir : Names) (reply : Reply) : Type 0 where
  pub status : reply.status ≡ 200
  pub texts : List (List ℕ)
  pub body : body_in w reply.parts ≡ flat_map (λ text. text) texts
  pub index : IsIndex (dir_path dir) (AreRows (dir_path dir) (members w dir)) texts

texts_of : (w : World) (texts : List (List ℕ)) → body_in w (map text texts) ≡ flat_map (λ t. t) texts
texts_of w [] = refl
texts_of w (t ∷ texts) = ap (λ z. t ++ z) (texts_of w texts)

pub page_sent : (w : World) (fields : Fields) (names : Names) (row : Row) (rose : Type 0) (reply : Reply) → look w.tree names ≡ Ok row → row.kind ≡ Dir → (rose → ⊥)
    → IsRight (query peer_settings fields Get (dir_path names)) (shown_in peer_rules w) rose reply → IsPageSent w names reply
page_sent w fields names row rose reply there kind none right =
    let head : IsIndexReply true (dir_path names) (AreRows (dir_path names) (members w names)) reply =
    subst (λ d. IsHead (asked_page fields names) d reply) (page_due w fields names row there kind) (is_head (asked_page fields names) (shown_in peer_rules w) rose reply none right) in
    let (texts, parts, index) = head.parts in
    record { status = head.status; texts = texts; body = ap (body_in w) parts ∙ texts_of w texts; index = index }
