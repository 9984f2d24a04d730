-- Any two results that the reader's and the writer's contracts allow agree: what an answer gives tells the answer. Assumes nothing.
use mathlib.Core.Path.{sym, ◌∙◌}
use Rattle.book.proofs.Agree.{gives_agree}
use Rattle.records.specs.RoundTrips.{ReadersAgree, WritersAgree}

pub readers_agree : ReadersAgree
readers_agree bs a b p q = gives_agree p q

pub writers_agree : WritersAgree
writers_agree r out a b left other p l q o = (gives_agree p q, l ∙ sym o)
