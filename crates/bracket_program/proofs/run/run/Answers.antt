use Rattle.bracket_program.proofs.RunLaws.{run-done, run-words, run-no_words, run-refused, run-read_fault}
use Rattle.bracket_program.proofs.RunLaws.{run-write_fault, run-script_full, run-untouched, run-front}
use Rattle.bracket_program.proofs.RunLaws.{run-completes_for, run-fills_for, run-file_rise, run-script_rise}
use Rattle.bracket_program.proofs.RunLaws.{run-sink_rise, run-files, run-made, run-unopened, run-refuses_for}
use Rattle.bracket_program.proofs.run.run.Goals as goal

pub returns-clause-done : goal.returns-clause-done
returns-clause-done g c = run-done _ _ _ _ _ _ _ c.run_to_end.ensures.ends

pub returns-clause-words : goal.returns-clause-words
returns-clause-words g c = run-words _ _ _ _ _ _ _ c.run_to_end.ensures.ends

pub returns-clause-no_words : goal.returns-clause-no_words
returns-clause-no_words g c = run-no_words _ _ _ _ _ _ _ c.run_to_end.ensures.ends

pub returns-clause-refused : goal.returns-clause-refused
returns-clause-refused g c = run-refused _ _ _ _ _ _ _ c.run_to_end.ensures.ends

pub returns-clause-read_fault : goal.returns-clause-read_fault
returns-clause-read_fault g c = run-read_fault _ _ _ _ _ _ _ c.run_to_end.ensures.ends

pub returns-clause-write_fault : goal.returns-clause-write_fault
returns-clause-write_fault g c = run-write_fault _ _ _ _ _ _ _ c.run_to_end.ensures.ends

pub returns-clause-script_full : goal.returns-clause-script_full
returns-clause-script_full g c = run-script_full _ _ _ _ _ _ _ c.run_to_end.ensures.ends

pub returns-clause-untouched : goal.returns-clause-untouched
returns-clause-untouched g c = run-untouched _ _ _ _ _ _ _ c.run_to_end.ensures.ends

pub returns-clause-front : goal.returns-clause-front
returns-clause-front g c = run-front _ _ _ _ _ _ _ c.run_to_end.ensures.ends

pub returns-clause-completes : goal.returns-clause-completes
returns-clause-completes g c = run-completes_for _ _ _ _ _ _ _ c.run_to_end.ensures.ends

pub returns-clause-refuses : goal.returns-clause-refuses
returns-clause-refuses g c = λ k. run-refuses_for _ _ _ _ _ _ _ c.run_to_end.ensures.ends k

pub returns-clause-fills : goal.returns-clause-fills
returns-clause-fills g c = run-fills_for _ _ _ _ _ _ _ c.run_to_end.ensures.ends

pub returns-clause-made : goal.returns-clause-made
returns-clause-made g c = run-made _ _ _ _ _ _ _ c.run_to_end.ensures.ends

pub returns-clause-file_rise : goal.returns-clause-file_rise
returns-clause-file_rise g c = run-file_rise _ _ _ _ _ _ _ c.run_to_end.ensures.ends

pub returns-clause-script_rise : goal.returns-clause-script_rise
returns-clause-script_rise g c = run-script_rise _ _ _ _ _ _ _ c.run_to_end.ensures.ends

pub returns-clause-sink_rise : goal.returns-clause-sink_rise
returns-clause-sink_rise g c = run-sink_rise _ _ _ _ _ _ _ c.run_to_end.ensures.ends

pub returns-clause-files_stand : goal.returns-clause-files_stand
returns-clause-files_stand g c = run-files _ _ _ _ _ _ _ c.run_to_end.ensures.ends

pub returns-clause-unopened : goal.returns-clause-unopened
returns-clause-unopened g c = run-unopened _ _ _ _ _ _ _ c.run_to_end.ensures.ends
