-- What is proved of both woods in the program `rings`.
pub mod BothWoods
