-- The lines of a generated program, piece by piece.
use Rattle.std.proofs.Common.{ℕ, List, [], ◌∷◌, ◌++◌, refl}
use Rattle.std.specs.Prelude.{codes}
use Rattle.work_gen.specs.Generated.{line}
use Rattle.work_gen_laws.specs.Drawn.{Letter, A, B, C, D, Operator, Plus, Times, ExclusiveOr, Side, Only, Operation, Drawn, byte, sign, side_text, line_text}
use Rattle.work_gen_laws.specs.Pieces.{variable, operator, feed, equal, semicolon, side_pieces, line_pieces, main_line, variables_line, counter_line, loop_line, step_line, end_line, output_line, return_line}
use Rattle.work_gen_laws.proofs.Fronts.{opened}
use Rattle.work_gen_laws.proofs.Along.{IsFront, Reads}

pub main_line_read : (rest : List ℕ) → Reads (line (codes "int main(void){") ++ rest) main_line rest
unfolding opened
main_line_read rest = (λ c text at. refl, (λ c text at. refl, (λ c text at. refl, (λ c text at. refl, (λ c text at. refl, (λ c text at. refl, (λ c text at. refl, (λ c text at. refl, refl))))))))

pub variables_line_read : (rest : List ℕ) → Reads (line (codes "unsigned a=1u,b=2u,c=3u,d=4u;") ++ rest) variables_line rest
unfolding opened
variables_line_read rest = (λ c text at. refl, (λ c text at. refl, (λ c text at. refl, (λ c text at. refl, (λ c text at. refl, (λ c text at. refl, (λ c text at. refl, (λ c text at. refl, (λ c text at. refl, (λ c text at. refl, (λ c text at. refl, (λ c text at. refl, (λ c text at. refl, (λ c text at. refl, (λ c text at. refl, (λ c text at. refl, (λ c text at. refl, (λ c text at. refl, (λ c text at. refl, refl)))))))))))))))))))

pub counter_line_read : (rest : List ℕ) → Reads (line (codes "int i=0;") ++ rest) counter_line rest
unfolding opened
counter_line_read rest = (λ c text at. refl, (λ c text at. refl, (λ c text at. refl, (λ c text at. refl, (λ c text at. refl, (λ c text at. refl, (λ c text at. refl, refl)))))))

pub loop_line_read : (rest : List ℕ) → Reads (line (codes "while(i<2){") ++ rest) loop_line rest
unfolding opened
loop_line_read rest = (λ c text at. refl, (λ c text at. refl, (λ c text at. refl, (λ c text at. refl, (λ c text at. refl, (λ c text at. refl, (λ c text at. refl, (λ c text at. refl, refl))))))))

pub step_line_read : (rest : List ℕ) → Reads (line (codes "i=i+1;") ++ rest) step_line rest
unfolding opened
step_line_read rest = (λ c text at. refl, (λ c text at. refl, (λ c text at. refl, (λ c text at. refl, (λ c text at. refl, (λ c text at. refl, (λ c text at. refl, refl)))))))

pub end_line_read : (rest : List ℕ) → Reads (line (codes "}") ++ rest) end_line rest
unfolding opened
end_line_read rest = (λ c text at. refl, (λ c text at. refl, refl))

pub output_line_read : (rest : List ℕ) → Reads (line (codes "putchar(65+(int)((a+b+c+d)%26u));") ++ rest) output_line rest
unfolding opened
output_line_read rest = (λ c text at. refl, (λ c text at. refl, (λ c text at. refl, (λ c text at. refl, (λ c text at. refl, (λ c text at. refl, (λ c text at. refl, (λ c text at. refl, (λ c text at. refl, (λ c text at. refl, (λ c text at. refl, (λ c text at. refl, (λ c text at. refl, (λ c text at. refl, (λ c text at. refl, (λ c text at. refl, (λ c text at. refl, (λ c text at. refl, (λ c text at. refl, (λ c text at. refl, (λ c text at. refl, (λ c text at. refl, (λ c text at. refl, refl)))))))))))))))))))))))

pub return_line_read : (rest : List ℕ) → Reads (line (codes "return 0;") ++ rest) return_line rest
unfolding opened
return_line_read rest = (λ c text at. refl, (λ c text at. refl, (λ c text at. refl, (λ c text at. refl, (λ c text at. refl, refl)))))

name_equal : (l : Letter) (rest : List ℕ) → IsFront (byte l ∷ 61 ∷ rest) (variable (byte l))
unfolding opened
name_equal A rest = λ c text at. refl
name_equal B rest = λ c text at. refl
name_equal C rest = λ c text at. refl
name_equal D rest = λ c text at. refl

name_semicolon : (l : Letter) (rest : List ℕ) → IsFront (byte l ∷ 59 ∷ rest) (variable (byte l))
unfolding opened
name_semicolon A rest = λ c text at. refl
name_semicolon B rest = λ c text at. refl
name_semicolon C rest = λ c text at. refl
name_semicolon D rest = λ c text at. refl

name_operator : (l : Letter) (o : Operator) (rest : List ℕ) → IsFront (byte l ∷ sign o ∷ rest) (variable (byte l))
unfolding opened
name_operator A Plus rest = λ c text at. refl
name_operator A Times rest = λ c text at. refl
name_operator A ExclusiveOr rest = λ c text at. refl
name_operator B Plus rest = λ c text at. refl
name_operator B Times rest = λ c text at. refl
name_operator B ExclusiveOr rest = λ c text at. refl
name_operator C Plus rest = λ c text at. refl
name_operator C Times rest = λ c text at. refl
name_operator C ExclusiveOr rest = λ c text at. refl
name_operator D Plus rest = λ c text at. refl
name_operator D Times rest = λ c text at. refl
name_operator D ExclusiveOr rest = λ c text at. refl

equal_name : (l : Letter) (rest : List ℕ) → IsFront (61 ∷ byte l ∷ rest) equal
unfolding opened
equal_name A rest = λ c text at. refl
equal_name B rest = λ c text at. refl
equal_name C rest = λ c text at. refl
equal_name D rest = λ c text at. refl

operator_name : (o : Operator) (l : Letter) (rest : List ℕ) → IsFront (sign o ∷ byte l ∷ rest) (operator o)
unfolding opened
operator_name Plus A rest = λ c text at. refl
operator_name Plus B rest = λ c text at. refl
operator_name Plus C rest = λ c text at. refl
operator_name Plus D rest = λ c text at. refl
operator_name Times A rest = λ c text at. refl
operator_name Times B rest = λ c text at. refl
operator_name Times C rest = λ c text at. refl
operator_name Times D rest = λ c text at. refl
operator_name ExclusiveOr A rest = λ c text at. refl
operator_name ExclusiveOr B rest = λ c text at. refl
operator_name ExclusiveOr C rest = λ c text at. refl
operator_name ExclusiveOr D rest = λ c text at. refl

semicolon_feed : (rest : List ℕ) → IsFront (59 ∷ 10 ∷ rest) semicolon
unfolding opened
semicolon_feed rest = λ c text at. refl

pub feed_alone : (rest : List ℕ) → IsFront (10 ∷ rest) feed
unfolding opened
feed_alone rest = λ c text at. refl

assigned_read : (t : Letter) (s : Side) (rest : List ℕ) → Reads (byte t ∷ 61 ∷ (side_text s ++ 59 ∷ 10 ∷ []) ++ rest) (variable (byte t) ∷ equal ∷ side_pieces s ++ semicolon ∷ feed ∷ []) rest
assigned_read t (Only l) rest = (name_equal t _, (equal_name l _, (name_semicolon l _, (semicolon_feed rest, (feed_alone rest, refl)))))
assigned_read t (Operation o l m) rest =
    (name_equal t _, (equal_name l _, (name_operator l o _, (operator_name o m _, (name_semicolon m _, (semicolon_feed rest, (feed_alone rest, refl)))))))

pub line_read : (d : Drawn) (rest : List ℕ) → Reads (line_text d ++ rest) (line_pieces d) rest
line_read d rest = assigned_read d.target d.side rest
