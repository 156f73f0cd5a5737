-- Where control flow leads from a statement that is entered: to what follows it, or by a `break` or `continue` out of
-- it. A condition leads both ways, whatever it is.
use Rattle.std.specs.Prelude.{Bool, true, false, ◌||◌, not, is_some, if◌then◌else◌}
use Rattle.c_tree.specs.TypedStatements.{TypedStatementTree, Block, Declaration, Empty, Run, If, IfElse, While, DoWhile, For, Switch, Break, Continue, Return, TypedStatementTrees, none, first, case, default}
use Rattle.c_places.specs.declared.flow.Exits.{Exits}

-- to what follows alone
abbrev pub onwards : Exits
onwards = record { next = true; breaks = false; continues = false }

-- nowhere
abbrev pub nowhere : Exits
nowhere = record { next = false; breaks = false; continues = false }

-- a block of a switch has a `default`
abbrev pub has_default : TypedStatementTrees → Bool
has_default none = false
has_default (first s rest) = has_default rest
has_default (case value rest) = has_default rest
has_default (default rest) = true

-- a statement behind others: it is entered where they lead to it
abbrev pub exits_behind : Exits → Exits → Exits
exits_behind e f =
    if e.next then record {
      next = f.next;
      breaks = e.breaks || f.breaks;
      continues = e.continues || f.continues;
    } else e

-- two arms
abbrev pub exits_of_arms : Exits → Exits → Exits
exits_of_arms e f =
    record { next = e.next || f.next; breaks = e.breaks || f.breaks; continues = e.continues || f.continues }

abbrev mutual
  -- how control can leave a statement: to what follows, by break, or by continue
  pub exits_of : TypedStatementTree → Exits
  exits_of (Block all) = exits_of_all onwards all
  exits_of (Declaration all) = onwards
  exits_of (Empty spot) = onwards
  exits_of (Run spot a) = onwards
  -- the condition may be false
  exits_of (If spot c s) = record { next = true; breaks = (exits_of s).breaks; continues = (exits_of s).continues }
  exits_of (IfElse spot c s t) = exits_of_arms (exits_of s) (exits_of t)
  exits_of (While spot c s) = onwards
  -- the condition is reached from the end of the body, or by `continue`
  exits_of (DoWhile s spot c) =
      record {
        next = (exits_of s).next || (exits_of s).continues || (exits_of s).breaks;
        breaks = false;
        continues = false;
      }
  -- without a condition only a `break` leads out
  exits_of (For start spot c step s) =
      record { next = is_some c || (exits_of s).breaks; breaks = false; continues = false }
  -- it leads to each label, and without `default` to what follows
  exits_of (Switch spot a all) =
      record {
        next = (exits_of_all nowhere all).next || (exits_of_all nowhere all).breaks || not (has_default all);
        breaks = false;
        continues = (exits_of_all nowhere all).continues;
      }
  exits_of (Break spot) = record { next = false; breaks = true; continues = false }
  exits_of (Continue spot) = record { next = false; breaks = false; continues = true }
  exits_of (Return spot a) = nowhere

  -- statements behind others that lead so; behind a label of a switch that is entered each is entered
  pub exits_of_all : Exits → TypedStatementTrees → Exits
  exits_of_all e none = e
  exits_of_all e (first s rest) = exits_of_all (exits_behind e (exits_of s)) rest
  exits_of_all e (case value rest) =
      exits_of_all (record { next = true; breaks = e.breaks; continues = e.continues }) rest
  exits_of_all e (default rest) = exits_of_all (record { next = true; breaks = e.breaks; continues = e.continues }) rest

-- flow from the entry of a function reaches its closing brace
abbrev pub reaches_end : TypedStatementTrees → Bool
reaches_end body = (exits_of_all onwards body).next
