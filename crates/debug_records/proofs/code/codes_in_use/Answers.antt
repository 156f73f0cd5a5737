use Rattle.std.proofs.Common.{refl}
use Rattle.std.specs.Fmt.{digits}
use Rattle.debug_records.proofs.code.codes_in_use.Goals as goal

pub returns-clause-unknown_byte : goal.returns-clause-unknown_byte
unfolding digits
returns-clause-unknown_byte c = refl

pub returns-clause-unended_comment : goal.returns-clause-unended_comment
unfolding digits
returns-clause-unended_comment c = refl

pub returns-clause-malformed_literal : goal.returns-clause-malformed_literal
unfolding digits
returns-clause-malformed_literal c = refl

pub returns-clause-malformed_constant : goal.returns-clause-malformed_constant
unfolding digits
returns-clause-malformed_constant c = refl

pub returns-clause-unknown_escape : goal.returns-clause-unknown_escape
unfolding digits
returns-clause-unknown_escape c = refl

pub returns-clause-unknown_directive : goal.returns-clause-unknown_directive
unfolding digits
returns-clause-unknown_directive c = refl

pub returns-clause-unexpected_token : goal.returns-clause-unexpected_token
unfolding digits
returns-clause-unexpected_token c = refl

pub returns-clause-unexpected_keyword : goal.returns-clause-unexpected_keyword
unfolding digits
returns-clause-unexpected_keyword c = refl

pub returns-clause-undeclared : goal.returns-clause-undeclared
unfolding digits
returns-clause-undeclared c = refl

pub returns-clause-redeclared : goal.returns-clause-redeclared
unfolding digits
returns-clause-redeclared c = refl

pub returns-clause-operand_types : goal.returns-clause-operand_types
unfolding digits
returns-clause-operand_types c = refl

pub returns-clause-not_an_lvalue : goal.returns-clause-not_an_lvalue
unfolding digits
returns-clause-not_an_lvalue c = refl

pub returns-clause-arguments : goal.returns-clause-arguments
unfolding digits
returns-clause-arguments c = refl

pub returns-clause-return_mismatch : goal.returns-clause-return_mismatch
unfolding digits
returns-clause-return_mismatch c = refl

pub returns-clause-misplaced_jump : goal.returns-clause-misplaced_jump
unfolding digits
returns-clause-misplaced_jump c = refl

pub returns-clause-initializer : goal.returns-clause-initializer
unfolding digits
returns-clause-initializer c = refl

pub returns-clause-repeated_label : goal.returns-clause-repeated_label
unfolding digits
returns-clause-repeated_label c = refl

pub returns-clause-no_main : goal.returns-clause-no_main
unfolding digits
returns-clause-no_main c = refl

pub returns-clause-text_size : goal.returns-clause-text_size
unfolding digits
returns-clause-text_size c = refl

pub returns-clause-nesting : goal.returns-clause-nesting
unfolding digits
returns-clause-nesting c = refl

pub returns-clause-function_weight : goal.returns-clause-function_weight
unfolding digits
returns-clause-function_weight c = refl

pub returns-clause-program_weight : goal.returns-clause-program_weight
unfolding digits
returns-clause-program_weight c = refl

pub returns-clause-function_objects : goal.returns-clause-function_objects
unfolding digits
returns-clause-function_objects c = refl

pub returns-clause-static_objects : goal.returns-clause-static_objects
unfolding digits
returns-clause-static_objects c = refl

pub returns-clause-function_count : goal.returns-clause-function_count
unfolding digits
returns-clause-function_count c = refl

pub returns-clause-visible_pairs : goal.returns-clause-visible_pairs
unfolding digits
returns-clause-visible_pairs c = refl

pub returns-clause-name_size : goal.returns-clause-name_size
unfolding digits
returns-clause-name_size c = refl

pub returns-clause-unknown_command : goal.returns-clause-unknown_command
unfolding digits
returns-clause-unknown_command c = refl

pub returns-clause-line_number : goal.returns-clause-line_number
unfolding digits
returns-clause-line_number c = refl

pub returns-clause-command_name : goal.returns-clause-command_name
unfolding digits
returns-clause-command_name c = refl

pub returns-clause-line_size : goal.returns-clause-line_size
unfolding digits
returns-clause-line_size c = refl

pub returns-clause-header_size : goal.returns-clause-header_size
unfolding digits
returns-clause-header_size c = refl

pub returns-clause-magic : goal.returns-clause-magic
unfolding digits
returns-clause-magic c = refl

pub returns-clause-version : goal.returns-clause-version
unfolding digits
returns-clause-version c = refl

pub returns-clause-length : goal.returns-clause-length
unfolding digits
returns-clause-length c = refl

pub returns-clause-header_numbers : goal.returns-clause-header_numbers
unfolding digits
returns-clause-header_numbers c = refl

pub returns-clause-functions : goal.returns-clause-functions
unfolding digits
returns-clause-functions c = refl

pub returns-clause-places : goal.returns-clause-places
unfolding digits
returns-clause-places c = refl

pub returns-clause-owners : goal.returns-clause-owners
unfolding digits
returns-clause-owners c = refl

pub returns-clause-variables : goal.returns-clause-variables
unfolding digits
returns-clause-variables c = refl

pub returns-clause-changes : goal.returns-clause-changes
unfolding digits
returns-clause-changes c = refl

pub returns-clause-pairs_and_rows : goal.returns-clause-pairs_and_rows
unfolding digits
returns-clause-pairs_and_rows c = refl

pub returns-clause-nodes_and_names : goal.returns-clause-nodes_and_names
unfolding digits
returns-clause-nodes_and_names c = refl

pub returns-clause-unknown_member : goal.returns-clause-unknown_member
unfolding digits
returns-clause-unknown_member c = refl

pub returns-clause-repeated_member : goal.returns-clause-repeated_member
unfolding digits
returns-clause-repeated_member c = refl

pub returns-clause-call_pairs : goal.returns-clause-call_pairs
unfolding digits
returns-clause-call_pairs c = refl

pub returns-clause-structure_size : goal.returns-clause-structure_size
unfolding digits
returns-clause-structure_size c = refl

pub returns-clause-calls_and_members : goal.returns-clause-calls_and_members
unfolding digits
returns-clause-calls_and_members c = refl

pub returns-clause-tables : goal.returns-clause-tables
unfolding digits
returns-clause-tables c = refl

pub returns-clause-transcript_line : goal.returns-clause-transcript_line
unfolding digits
returns-clause-transcript_line c = refl

pub returns-clause-stop : goal.returns-clause-stop
unfolding digits
returns-clause-stop c = refl

pub returns-clause-stray_verdict : goal.returns-clause-stray_verdict
unfolding digits
returns-clause-stray_verdict c = refl

pub returns-clause-no_row : goal.returns-clause-no_row
unfolding digits
returns-clause-no_row c = refl

pub returns-clause-evidence : goal.returns-clause-evidence
unfolding digits
returns-clause-evidence c = refl
