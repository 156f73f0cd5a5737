-- What is told of the same unit and function.
use Rattle.std.proofs.Common.{◌≡◌, ℕ, List, map, subst}
use Rattle.places.specs.declared.flow.FlowTable.{FlowTable}
use Rattle.debug_records.specs.declared.change.Change.{Change}
use Rattle.graph_core.specs.Graphs.{graph_view, logged}
use Rattle.currency_notes.specs.Homes.{home_in}
use Rattle.currency_writers.specs.declared.writers.Writers as declared-writers
use Rattle.currency_hiding.specs.declared.function.Function as declared-function
use Rattle.currency_hiding.specs.declared.teller.Teller as declared-teller
use Rattle.currency_hiding.specs.declared.hiding.Hiding as declared-hiding
use Rattle.currency_hiding.specs.First.{Tells}
use Rattle.currency_hiding.specs.Found.{IsSameFunction, IsSameTeller, TellsBy, TellsFor}

pub tells_same : (t u : declared-teller.Teller) (f h : declared-function.Function) (x variable p : ℕ) (c : declared-hiding.Hiding) → IsSameTeller t u → IsSameFunction f h → h.scalar ≡ x → u.search.flow.var.0 ≡ variable → TellsFor u h p c → TellsBy t f.writers x variable p c
tells_same t u f h x variable p c teller function scalar var hides =
    subst (λ v. Tells (map logged t.changes.all.now) t.search.flow.table.now (home_in f.writers.homes.now) f.writers.function (graph_view f.writers.graph.now) x v p c) var
    (subst (λ y. Tells (map logged t.changes.all.now) t.search.flow.table.now (home_in f.writers.homes.now) f.writers.function (graph_view f.writers.graph.now) y u.search.flow.var.0 p c) scalar
    (subst (λ (w : declared-writers.Writers). Tells (map logged t.changes.all.now) t.search.flow.table.now (home_in w.homes.now) w.function (graph_view w.graph.now) h.scalar u.search.flow.var.0 p c) function.writers
    (subst (λ (table : FlowTable). Tells (map logged t.changes.all.now) table (home_in h.writers.homes.now) h.writers.function (graph_view h.writers.graph.now) h.scalar u.search.flow.var.0 p c) teller.flow
    (subst (λ (all : List Change). Tells (map logged all) u.search.flow.table.now (home_in h.writers.homes.now) h.writers.function (graph_view h.writers.graph.now) h.scalar u.search.flow.var.0 p c) teller.changes hides))))
