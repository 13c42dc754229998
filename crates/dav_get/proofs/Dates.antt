-- A time that metadata says is one that is known.
use Rattle.std.proofs.Common.{◌≡◌, List, ℕ, Option, None, Some, Ok, subst, sym}
use Rattle.dav_core.specs.declared.time.FileTime.{FileTime}
use Rattle.dav_core.specs.Info.{said}
use Rattle.dav_model.specs.Head.{IsDate}

pub said_some : (o : Option FileTime) (time : FileTime) → Ok time ≡ said o → o ≡ Some time
said_some None time e = cc
said_some (Some t) time e = cc

pub dated : (o : Option FileTime) (time : FileTime) (text : List ℕ) → Ok time ≡ said o → IsDate (Some time) (Some text) → IsDate o (Some text)
dated o time text e date = subst (λ x. IsDate x (Some text)) (sym (said_some o time e)) date
