-- What is proved of each series in the program `rings`.
pub mod SeriesNumbers
