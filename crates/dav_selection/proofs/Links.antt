-- Links that are followed, one after the other.
use Rattle.std.proofs.Common.{◌≡◌, ◌<◌, ◌+◌, ◌++◌, ◌⊎◌, ℕ, List, [], ◌∷◌, length, take, map, get_or, Bool, false, Option, Result, Ok, Err, OnOk, sym, ap, ◌∙◌, inl, inr, add-one}
use Rattle.std.specs.Result.{is_err}
use Rattle.dav_store.specs.View.{View}
use Rattle.dav_report.specs.declared.answer.Record.{Record}
use Rattle.dav_report.specs.declared.error.ReportError.{ReportError}
use Rattle.dav_report.specs.declared.error.ReportError.TheVariants as error
use Rattle.dav_selection.specs.Answered.{Answer, Link, answer_given, is_given, linked, missing, unless}
use Rattle.dav_selection.specs.Reports.{Followed, Leads, leads}
use Rattle.dav_selection.proofs.Walks.{link_of, linked_more, missing_more, written_more}

pub ok_then : {T E : Type 0} (r : Result T E) (P : Type 0) → false ≡ is_err r → OnOk r P → P
ok_then (Ok x) P e h = h
ok_then (Err x) P e h = cc

same_ok : (a b : Bool) → ◌≡◌ {A = Result Bool ReportError} (Ok a) (Ok b) → a ≡ b
same_ok a b e = cc

module _ {S C F : Type 0} (view : View S C F) (c : C) (taken : List ℕ → Option (List ℕ)) (prefix : List ℕ) where
  pub links_more : (hrefs : List (List ℕ)) (s m t : S) (i : ℕ) (href d : List ℕ) (was : Bool) (olds news : List Record) (oldm newm : List (List ℕ))
      → (links : List Link) × Followed view c prefix s links m × (map (λ (l : Link). l.href) links ≡ take i hrefs) × (olds ≡ linked taken links) × (oldm ≡ missing taken links)
      → ((answer : Option Answer) × Leads view c prefix href m answer t × (news ≡ olds ++ answer_given taken answer)
      × (◌≡◌ {A = Result Bool ReportError} (Ok was) (Ok (is_given (answer_given taken answer))))) ⊎ (◌≡◌ {A = Result Bool ReportError} (Ok was) (Err error.NoMemory))
      → i < length hrefs → href ≡ get_or hrefs i d → newm ≡ oldm ++ unless was href
      → (links : List Link) × Followed view c prefix s links t × (map (λ (l : Link). l.href) links ≡ take (i + 1) hrefs) × (news ≡ linked taken links) × (newm ≡ missing taken links)
  links_more hrefs s m t i href d was olds news oldm newm (links, followed, written, given, lost) (inl (answer, led, added, is)) within here noted = (
    links ++ link_of href answer ∷ [],
    leads links m t href answer followed led,
    written_more links hrefs i href d answer written within here ∙ ap (λ n. take n hrefs) (sym (add-one i)),
    linked_more taken links href answer olds news given added,
    missing_more taken links href answer was oldm newm lost (same_ok was (is_given (answer_given taken answer)) is) noted,
  )
  links_more hrefs s m t i href d was olds news oldm newm before (inr never) within here noted = cc
