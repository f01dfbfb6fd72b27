-- The commands of the code as those of the definition.
use Rattle.ckc_cli_commands.specs.Words.{Command, Build, Assemble, Exec, Interp, Run, Show, Judge, Sample}
use Rattle.ckc_cli_commands.specs.declared.words.Command as commands
use Rattle.ckc_cli_commands.specs.declared.words.Command.TheVariants as command

abbrev pub command_is : commands.Command → Command
command_is (command.Build text image) = Build text.now image.now
command_is (command.Assemble text image) = Assemble text.now image.now
command_is (command.Exec text limit) = Exec text.now limit
command_is (command.Interp text limit) = Interp text.now limit
command_is (command.Run image limit) = Run image.now limit
command_is (command.List image) = Show image.now
command_is (command.Check text) = Judge text.now
command_is (command.Sample seed size) = Sample seed size
