-- What a graph file comes to, as C is given it: the promise gives the struct outright. Assumes nothing.
use Rattle.std.specs.Prelude.{◌≡◌, refl, ℕ, Result, ⊤}
use Rattle.std.proofs.Common.{ap, ◌∙◌}
use Rattle.shapes.specs.Shapes.{verdict-same}
use Rattle.shapes.specs.declared.GustVerdict.{GustVerdict}
use Rattle.dimacs.specs.Says.{number_of, place_of}
use Rattle.dimacs.specs.declared.Fault.{Fault}

abbrev pub graph_in : Result ⊤ Fault → GustVerdict
graph_in v = record { number = number_of v; path = 0; place = place_of v }

pub graph_told : {v w : Result ⊤ Fault} {n p : ℕ} → v ≡ w → n ≡ number_of v → p ≡ place_of v → ◌≡◌ {A = GustVerdict} (record { number = n; path = 0; place = p }) (graph_in w)
graph_told e a b = verdict-same (a ∙ ap number_of e) refl (b ∙ ap place_of e)
