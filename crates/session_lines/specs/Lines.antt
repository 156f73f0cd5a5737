-- The lines of a summary, each as the text before its end.
use Rattle.std.specs.Prelude.{ℕ, List, ◌++◌, codes}
use Rattle.line_form.specs.Decimal.{decimal}

-- seed SEED size SIZE, for the program that is generated from these
unfoldable pub seed_line : (seed size : ℕ) → List ℕ
seed_line seed size = codes "seed " ++ (decimal seed ++ (codes " size " ++ decimal size))

-- stops COUNT, for the stops that a run came to
unfoldable pub stops_line : ℕ → List ℕ
stops_line count = codes "stops " ++ decimal count

-- pairs COUNT home COUNT recovered COUNT noncurrent COUNT nonresident COUNT, for the pairs of a stop and a variable
-- that is visible there, all of them and by what was told of the variable
unfoldable pub pairs_line : (pairs home recovered noncurrent nonresident : ℕ) → List ℕ
pairs_line pairs home recovered noncurrent nonresident =
    codes "pairs " ++ (decimal pairs ++ (codes " home " ++ (decimal home ++ (codes " recovered " ++ (decimal recovered
    ++ (codes " noncurrent " ++ (decimal noncurrent ++ (codes " nonresident " ++ decimal nonresident))))))))

-- out COUNT, for the bytes that the program has put out
unfoldable pub out_count_line : ℕ → List ℕ
out_count_line count = codes "out " ++ decimal count
