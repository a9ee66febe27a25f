use Rattle.lt_frames.proofs.Frames.{frames_are_read, read_frames_are_written, frame_faults_have_causes, frames_are_prefix}
use Rattle.lt_frames.proofs.Numbers.{sealed_are_prefix}
use Rattle.lt_frames.proofs.laws.law_frames.Goals as goal

pub returns : goal.returns
returns c = record {
  read = frames_are_read;
  written = read_frames_are_written;
  faults = frame_faults_have_causes;
  first = frames_are_prefix;
  sealed = sealed_are_prefix;
}
