-- What a report gives, by what came of the resources that were asked for.
use Rattle.std.specs.Prelude.{◌<◌, ◌∷◌, ℕ, List, [], Bool, true, false, Option, None, Some, Result, Ok, Err}
use Rattle.std.specs.List.{flat_map}
use Rattle.std.specs.Option.{option_map, option_to_list}
use Rattle.dav_core.specs.DavPath.{WebPath}
use Rattle.dav_report.specs.declared.answer.Record.{Record}
use Rattle.dav_selection.specs.declared.resource.Resource.{Resource}
use Rattle.dav_selection.specs.declared.resource.Unread.{Unread}

-- a resource that was asked for, and what came of it
pub record Answer : Type 0 where
  pub path : WebPath
  pub got : Result Resource Unread

-- a link, as it is written, and the answer for it, where it leads to a path
pub record Link : Type 0 where
  pub href : List ℕ
  pub answer : Option Answer

abbrev pub record_of : WebPath → List ℕ → List ℕ → Record
record_of path etag text = record { path = path; etag = etag; text = text }

abbrev pub is_given : List Record → Bool
is_given [] = false
is_given (r ∷ records) = true

abbrev pub unless : Bool → List ℕ → List (List ℕ)
unless true href = []
unless false href = href ∷ []

-- `taken` gives the text of a content that is wanted
module _ (taken : List ℕ → Option (List ℕ)) where
  -- the record of a resource, where it was read and is wanted
  abbrev pub given : WebPath → Result Resource Unread → List Record
  given path (Ok r) = option_to_list (option_map (record_of path r.etag) (taken r.content))
  given path (Err e) = []

  abbrev pub records : List Answer → List Record
  records answers = flat_map (λ a. given a.path a.got) answers

  abbrev pub answer_given : Option Answer → List Record
  answer_given None = []
  answer_given (Some a) = given a.path a.got

  -- the records of links, and the links that gave none
  abbrev pub linked : List Link → List Record
  linked links = flat_map (λ l. answer_given l.answer) links

  abbrev pub missing : List Link → List (List ℕ)
  missing links = flat_map (λ l. unless (is_given (answer_given l.answer)) l.href) links

-- more records are wanted
abbrev pub Wants : Option ℕ → ℕ → Type 0
Wants None n = Unit {0}
Wants (Some limit) n = n < limit
